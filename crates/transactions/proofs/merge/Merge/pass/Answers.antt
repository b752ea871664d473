use Rattle.std.proofs.Common.{◌≡◌, ◌++◌, ◌∷◌, [], ℕ, List, Bool, false, ◌&&◌, Option, Some, None, refl, ap, sym, ◌∙◌, subst}
use Rattle.std.specs.Ordering.{is_lt}
use Rattle.store.specs.Records.{entries_where, key_cmp}
use Rattle.store.specs.Walks.{is_within}
use Rattle.store.proofs.Changes.{ordered_entries_where}
use Rattle.transactions.specs.Merging.{is_read}
use Rattle.transactions.specs.Within.{change_within, cut_at, cut_below, lists_within}
use Rattle.transactions.specs.WithinLaws.{cut_passed, least_cut, least_within, passed_within}
use Rattle.transactions.specs.declared.merge.Below.{Below}
use Rattle.transactions.specs.declared.merge.Found.TheVariants.{Held}
use Rattle.transactions.specs.declared.merge.Merge.{Merge}
use Rattle.transactions.proofs.Merging.{record_passed, nothing_passed, put_passed, removal_passed, read_is, both_are}
use Rattle.transactions.proofs.merge.Merge.pass.Goals as goal

pub returns-then-found-clause-passed : goal.returns-then-found-clause-passed
returns-then-found-clause-passed c rest es records rise known m =
    let old = c.args.self.now in
    let is = c.pass_record.ensures in
    let none : old.least ≡ None = sym c.take.ensures.value ∙ c.in_default.is in
    record_passed rest c.args.lists.now es old records rise m (read_is old.ahead (sym c.is_read-found.ensures ∙ c.if-found.true)) c.pass_record.new.self None none refl is.held is.ahead (is.least ∙ (c.take.ensures.after ∙ sym none))

pub returns-in_default-clause-passed : goal.returns-in_default-clause-passed
returns-in_default-clause-passed c rest es records rise known m =
    let old = c.args.self.now in
    let none : old.least ≡ None = sym c.take.ensures.value ∙ c.in_default.is in
    nothing_passed rest c.args.lists.now es old old records rise m none known (sym c.is_read-found.ensures ∙ c.if-found.false)

pub returns-then-found_before-clause-passed : goal.returns-then-found_before-clause-passed
returns-then-found_before-clause-passed c rest es records rise known m =
    let old = c.args.self.now in
    let is = c.pass_record-then-found_before.ensures in
    let change = c.in-Some.least in
    let some : old.least ≡ Some change = sym c.take.ensures.value ∙ c.in-Some.is in
    let both = both_are c.is_read-found.result (is_lt (key_cmp old.read.0 change.0)) (sym c.found_before.ensures ∙ c.if-found_before.true) in
    record_passed rest c.args.lists.now es old records rise m (read_is old.ahead (sym c.is_read-found.ensures ∙ both.0)) c.pass_record-then-found_before.new.self (Some change) some both.1 is.held is.ahead (is.least ∙ sym some)

pub returns-in-Some-value-clause-passed : goal.returns-in-Some-value-clause-passed
returns-in-Some-value-clause-passed c rest es records rise known m =
    let old = c.args.self.now in
    let mid = c.pass_change.new.self in
    let is = c.in_ok-pass_change.ensures in
    let change = c.in-Some.least in
    let value = c.in-Some-value.value.now in
    let after : Merge = record mid { found = Held; entry = c.set.new.self } in
    let not_before : (is_read old.ahead && is_lt (key_cmp old.read.0 change.0)) ≡ false =
    subst (λ (b : Bool). (b && is_lt (key_cmp old.read.0 change.0)) ≡ false) c.is_read-found.ensures (sym c.found_before.ensures ∙ c.if-found_before.false) in
    put_passed rest c.args.lists.now es old records rise m change (sym c.take.ensures.value ∙ c.in-Some.is) known not_before after is.read is.ahead is.least value c.in-Some-value.ensures
    (refl, c.in_ok-set-in-Some-value.ensures ∙ ap (λ k. (k, value)) c.key.ensures)

pub returns-clause-passed : goal.returns-clause-passed
returns-clause-passed c rest es records rise known m =
    let old = c.args.self.now in
    let is = c.in_ok-pass_change.ensures in
    let change = c.in-Some.least in
    let not_before : (is_read old.ahead && is_lt (key_cmp old.read.0 change.0)) ≡ false =
    subst (λ (b : Bool). (b && is_lt (key_cmp old.read.0 change.0)) ≡ false) c.is_read-found.ensures (sym c.found_before.ensures ∙ c.if-found_before.false) in
    removal_passed rest c.args.lists.now es old records rise m change (sym c.take.ensures.value ∙ c.in-Some.is) known not_before c.pass_change.new.self is.read is.ahead is.least c.in-None.ensures

-- ---- up to a stop

pub returns-then-found-clause-within : goal.returns-then-found-clause-within
returns-then-found-clause-within c stop rest es records rise known m =
    let old = c.args.self.now in
    let new = c.pass_record.new.self in
    let is = c.pass_record.ensures in
    let lists = c.args.lists.now in
    let none : old.least ≡ None = sym c.take.ensures.value ∙ c.in_default.is in
    record_passed rest (lists_within stop lists) (entries_where (is_within stop) es) old records (ordered_entries_where (is_within stop) es rise) m (read_is old.ahead (sym c.is_read-found.ensures ∙ c.if-found.true)) (cut_at stop new) None none refl is.held
    (ap (λ (a : Below). cut_below a (is_within stop new.read.0)) is.ahead)
    (ap (λ (o : Option (List ℕ × Option (List ℕ))). change_within stop o) (is.least ∙ (c.take.ensures.after ∙ sym none)) ∙ least_within stop rest lists es old records m)

pub returns-in_default-clause-within : goal.returns-in_default-clause-within
returns-in_default-clause-within c stop rest es records rise known m =
    let old = c.args.self.now in
    let none : old.least ≡ None = sym c.take.ensures.value ∙ c.in_default.is in
    nothing_passed rest (lists_within stop c.args.lists.now) (entries_where (is_within stop) es) old old records (ordered_entries_where (is_within stop) es rise) m none known (sym c.is_read-found.ensures ∙ c.if-found.false)

pub returns-then-found_before-clause-within : goal.returns-then-found_before-clause-within
returns-then-found_before-clause-within c stop rest es records rise known m =
    let old = c.args.self.now in
    let new = c.pass_record-then-found_before.new.self in
    let is = c.pass_record-then-found_before.ensures in
    let lists = c.args.lists.now in
    let change = c.in-Some.least in
    let some : old.least ≡ Some change = sym c.take.ensures.value ∙ c.in-Some.is in
    let both = both_are c.is_read-found.result (is_lt (key_cmp old.read.0 change.0)) (sym c.found_before.ensures ∙ c.if-found_before.true) in
    record_passed rest (lists_within stop lists) (entries_where (is_within stop) es) old records (ordered_entries_where (is_within stop) es rise) m (read_is old.ahead (sym c.is_read-found.ensures ∙ both.0)) (cut_at stop new) (Some change) some both.1 is.held
    (ap (λ (a : Below). cut_below a (is_within stop new.read.0)) is.ahead)
    (ap (λ (o : Option (List ℕ × Option (List ℕ))). change_within stop o) (is.least ∙ sym some) ∙ least_within stop rest lists es old records m)

pub returns-in-Some-value-clause-within : goal.returns-in-Some-value-clause-within
returns-in-Some-value-clause-within c stop rest es records rise known m =
    let old = c.args.self.now in
    let mid = c.pass_change.new.self in
    let is = c.in_ok-pass_change.ensures in
    let lists = c.args.lists.now in
    let change = c.in-Some.least in
    let value = c.in-Some-value.value.now in
    let after : Merge = record mid { found = Held; entry = c.set.new.self } in
    let less = is_lt (key_cmp change.0 old.read.0) in
    let not_before : (is_read old.ahead && is_lt (key_cmp old.read.0 change.0)) ≡ false =
    subst (λ (b : Bool). (b && is_lt (key_cmp old.read.0 change.0)) ≡ false) c.is_read-found.ensures (sym c.found_before.ensures ∙ c.if-found_before.false) in
    put_passed rest (lists_within stop lists) (entries_where (is_within stop) es) old records (ordered_entries_where (is_within stop) es rise) m change (sym c.take.ensures.value ∙ c.in-Some.is) known not_before (cut_at stop after) is.read
    (cut_passed stop old mid less is.ahead is.read (passed_within stop rest lists es old records less m))
    (least_cut stop (change.0 ++ 0 ∷ []) mid.least lists is.least) value c.in-Some-value.ensures
    (refl, c.in_ok-set-in-Some-value.ensures ∙ ap (λ k. (k, value)) c.key.ensures)

pub returns-clause-within : goal.returns-clause-within
returns-clause-within c stop rest es records rise known m =
    let old = c.args.self.now in
    let mid = c.pass_change.new.self in
    let is = c.in_ok-pass_change.ensures in
    let lists = c.args.lists.now in
    let change = c.in-Some.least in
    let less = is_lt (key_cmp change.0 old.read.0) in
    let not_before : (is_read old.ahead && is_lt (key_cmp old.read.0 change.0)) ≡ false =
    subst (λ (b : Bool). (b && is_lt (key_cmp old.read.0 change.0)) ≡ false) c.is_read-found.ensures (sym c.found_before.ensures ∙ c.if-found_before.false) in
    removal_passed rest (lists_within stop lists) (entries_where (is_within stop) es) old records (ordered_entries_where (is_within stop) es rise) m change (sym c.take.ensures.value ∙ c.in-Some.is) known not_before (cut_at stop mid) is.read
    (cut_passed stop old mid less is.ahead is.read (passed_within stop rest lists es old records less m))
    (least_cut stop (change.0 ++ 0 ∷ []) mid.least lists is.least) c.in-None.ensures
