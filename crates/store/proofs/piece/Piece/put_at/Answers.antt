use Rattle.std.proofs.Common.{◌<◌, ◌≤◌, ◌∙◌, sym, subst, ap, List, ℕ, length, set, arith}
use Rattle.std.specs.List.{insert}
use Rattle.store.specs.Records.{Changes}
use Rattle.store.specs.Place.{has_key_at}
use Rattle.store.proofs.Counting.{recounted_set, recounted_insert}
use Rattle.store.proofs.Places.{key_inside, place_inside, put_there, put_new, not_nowhere}
use Rattle.store.proofs.piece.Piece.put_at.Goals as goal

-- the change of the key is replaced
pub returns-then-has_key_at-clause-ok : goal.returns-then-has_key_at-clause-ok
returns-then-has_key_at-clause-ok c =
    let there = ap (λ (k : List ℕ). has_key_at k c.args.at c.args.self.now) (sym c.key.ensures) ∙ sym c.has_key_at.ensures ∙ c.if-has_key_at.true in
    ap (λ (cs : Changes). set cs c.args.at c.args.change) c.self.view_is
    ∙ put_there c.args.change.0 c.args.change.1 c.args.at c.args.self.now c.requires.place there

-- or it comes between its neighbours
pub returns-clause-ok : goal.returns-clause-ok
returns-clause-ok c =
    let new = ap (λ (k : List ℕ). has_key_at k c.args.at c.args.self.now) (sym c.key.ensures) ∙ sym c.has_key_at.ensures ∙ c.if-has_key_at.false in
    c.in_ok-insert.ensures.items
    ∙ ap (λ (cs : Changes). insert cs c.args.at c.args.change) c.self.view_is
    ∙ put_new c.args.change.0 c.args.change.1 c.args.at c.args.self.now c.requires.place new

-- a put in place of a change allocates nothing
pub returns-in_err-insert-clause-there : goal.returns-in_err-insert-clause-there
returns-in_err-insert-clause-there c =
    let new = ap (λ (k : List ℕ). has_key_at k c.args.at c.args.self.now) (sym c.key.ensures) ∙ sym c.has_key_at.ensures ∙ c.if-has_key_at.false in
    λ some. not_nowhere c.args.change.0 c.args.at c.args.self.now c.requires.ordered c.requires.place new some

-- the values are counted
pub overflow_sub-self : goal.overflow_sub-self
overflow_sub-self c =
    let es = c.self.inside.changes.items in
    let at = c.args.at in
    let there = ap (λ (k : List ℕ). has_key_at k at c.args.self.now) (sym c.key.ensures) ∙ sym c.has_key_at.ensures ∙ c.if-has_key_at.true in
    let inside : at < length es = subst (λ (cs : Changes). at < length cs) (sym c.self.view_is) (key_inside c.args.change.0 at c.args.self.now there) in
    let made = recounted_set at es c.index.result.now c.args.change c.self.inside.put_count c.count_put-old_count.result c.count_put-put_count.result inside c.index.ensures c.self.invariant c.count_put-old_count.ensures.exact c.count_put-put_count.ensures.exact in
    made.there

pub overflow_add-self : goal.overflow_add-self
overflow_add-self c =
    let es = c.self.inside.changes.items in
    let at = c.args.at in
    let there = ap (λ (k : List ℕ). has_key_at k at c.args.self.now) (sym c.key.ensures) ∙ sym c.has_key_at.ensures ∙ c.if-has_key_at.true in
    let inside : at < length es = subst (λ (cs : Changes). at < length cs) (sym c.self.view_is) (key_inside c.args.change.0 at c.args.self.now there) in
    let made = recounted_set at es c.index.result.now c.args.change c.self.inside.put_count c.count_put-old_count.result c.count_put-put_count.result inside c.index.ensures c.self.invariant c.count_put-old_count.ensures.exact c.count_put-put_count.ensures.exact in
    omega (arith, made.few, c.self.inside.changes.ok, c.self.inside.changes.small)

pub invariant_of-self : goal.invariant_of-self
invariant_of-self c =
    let es = c.self.inside.changes.items in
    let at = c.args.at in
    let there = ap (λ (k : List ℕ). has_key_at k at c.args.self.now) (sym c.key.ensures) ∙ sym c.has_key_at.ensures ∙ c.if-has_key_at.true in
    let inside : at < length es = subst (λ (cs : Changes). at < length cs) (sym c.self.view_is) (key_inside c.args.change.0 at c.args.self.now there) in
    let made = recounted_set at es c.index.result.now c.args.change c.self.inside.put_count c.count_put-old_count.result c.count_put-put_count.result inside c.index.ensures c.self.invariant c.count_put-old_count.ensures.exact c.count_put-put_count.ensures.exact in
    made.exact

pub overflow_add-self-2 : goal.overflow_add-self-2
overflow_add-self-2 c =
    let es = c.self.inside.changes.items in
    let at = c.args.at in
    let inside : at ≤ length es = subst (λ (cs : Changes). at ≤ length cs) (sym c.self.view_is) (place_inside c.args.change.0 at c.args.self.now c.requires.place) in
    let made = recounted_insert at es c.insert.new.self.items c.args.change c.self.inside.put_count c.count_put-put_count.result inside c.in_ok-insert.ensures.items c.self.invariant c.count_put-put_count.ensures.exact in
    omega (arith, made.few, c.insert.new.self.ok, c.insert.new.self.small)

pub invariant_of-self-2 : goal.invariant_of-self-2
invariant_of-self-2 c =
    let es = c.self.inside.changes.items in
    let at = c.args.at in
    let inside : at ≤ length es = subst (λ (cs : Changes). at ≤ length cs) (sym c.self.view_is) (place_inside c.args.change.0 at c.args.self.now c.requires.place) in
    let made = recounted_insert at es c.insert.new.self.items c.args.change c.self.inside.put_count c.count_put-put_count.result inside c.in_ok-insert.ensures.items c.self.invariant c.count_put-put_count.ensures.exact in
    omega (arith, made.exact)

pub insert-requires : goal.insert-requires
insert-requires c =
    let es = c.self.inside.changes.items in
    let inside : c.args.at ≤ length es = subst (λ (cs : Changes). c.args.at ≤ length cs) (sym c.self.view_is) (place_inside c.args.change.0 c.args.at c.args.self.now c.requires.place) in
    omega (arith, inside, c.self.inside.changes.ok)
