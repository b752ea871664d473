-- The rows that an UPDATE or a DELETE chooses, and what the definition chooses.
use Rattle.std.proofs.Common.{◌≡◌, ◌≤◌, ℕ, ◌+◌, Bool, true, false, if◌then◌else◌, List, [], ◌∷◌, ◌++◌, map, length, option_to_list, Option, Some, None, Result, Ok, Err, refl, sym, ap, ◌∙◌, subst, inl, inr, append_assoc, append-nil, arith}
use Rattle.std.specs.List.{AllByRecursion}
use Rattle.std.proofs.lemmas.List.{length-append}
use Rattle.sql_types.specs.declared.state.SqlState.{SqlState}
use Rattle.sql_types.specs.declared.value.Value.TheVariants.{Null, Int, Text, Bool as Boolean}
use Rattle.sql_types.specs.Row.{Row}
use Rattle.sql_ast.specs.Layout.{Layout}
use Rattle.expressions.specs.Outcome.{Outcome}
use Rattle.expressions.specs.Stages.{◌>>=◌, each}
use Rattle.expressions.proofs.Results.{bind_ok, ok_inside}
use Rattle.store.specs.Records.{Records, IsOrdered, applied, has_prefix}
use Rattle.store.proofs.Changes.{ordered_changed, put_applied, all_changed}
use Rattle.store.proofs.HeldItems.{own_prefix}
use Rattle.row_codec.specs.Rows.{row_key, row_prefix}
use Rattle.abstract_database.specs.Expressions.{when_true}
use Rattle.abstract_database.specs.Guards.{Guard}
use Rattle.abstract_database.specs.Changes.{Chosen, choose, new_rows}
use Rattle.abstract_database.specs.Whole.{Each}
use Rattle.guards.specs.Truths.{is_met}
use Rattle.stored_database.specs.RecordFormat.{row_record}
use Rattle.table_rows.specs.HeldRows.{ConcernRowsOf}
use Rattle.table_rows.specs.Changed.{without_keys, old_key, old_keys}
use Rattle.table_rows.specs.declared.choose.ChosenRows.{ChosenRows}
use Rattle.table_rows.specs.Choosing.{is_chosen, with_chosen, over_chosen, taking, all_chosen}

-- ---- what is taken of rows that are chosen

module _ {A B : Type 0} (keep : Row → B) (take : Row → B → A → A) where
  abbrev pub take_if : Row → Option Row → A → A
  take_if row None done = done
  take_if row (Some new) done = take row (keep new) done

  abbrev pub all_taken : A → List Chosen → A
  all_taken done [] = done
  all_taken done (c ∷ cs) = all_taken (take_if c.row c.new done) cs

  -- ---- row by row

  then_taken : (r : Result (List Chosen) SqlState) (c : Chosen) (done : A) → ((r >>= λ ys. Ok (c ∷ ys)) >>= λ cs. Ok (all_taken done cs)) ≡ (r >>= λ ys. Ok (all_taken (take_if c.row c.new done) ys))
  then_taken (Ok ys) c done = refl
  then_taken (Err code) c done = refl

  -- one row, by its guard, its condition and what becomes of it
  one_chosen : (row : Row) (guard condition : Outcome) (into : Result Row SqlState) (become : Result B SqlState) (if_chosen : B → Result A SqlState) (if_not : Result A SqlState)
      (go_on : Chosen → Result A SqlState) → become ≡ (into >>= λ x. Ok (keep x)) → ((new : Row) → if_chosen (keep new) ≡ go_on (record { row = row; new = Some new })) → if_not ≡ go_on (record { row = row; new = None })
      → ((is_met guard >>= λ visible. if visible then is_met condition else Ok false) >>= λ this. if this then (become >>= if_chosen) else if_not)
      ≡ ((guard >>= λ visible. when_true visible condition (Ok (Boolean false)) >>= λ chosen. when_true chosen (into >>= λ r. Ok (Some r)) (Ok None) >>= λ new. Ok (record { row = row; new = new })) >>= go_on)
  one_chosen row (Err code) condition into become if_chosen if_not go_on e yes_case no_case = refl
  one_chosen row (Ok Null) condition into become if_chosen if_not go_on e yes_case no_case = no_case
  one_chosen row (Ok (Int n)) condition into become if_chosen if_not go_on e yes_case no_case = no_case
  one_chosen row (Ok (Text t)) condition into become if_chosen if_not go_on e yes_case no_case = no_case
  one_chosen row (Ok (Boolean false)) condition into become if_chosen if_not go_on e yes_case no_case = no_case
  one_chosen row (Ok (Boolean true)) (Err code) into become if_chosen if_not go_on e yes_case no_case = refl
  one_chosen row (Ok (Boolean true)) (Ok Null) into become if_chosen if_not go_on e yes_case no_case = no_case
  one_chosen row (Ok (Boolean true)) (Ok (Int n)) into become if_chosen if_not go_on e yes_case no_case = no_case
  one_chosen row (Ok (Boolean true)) (Ok (Text t)) into become if_chosen if_not go_on e yes_case no_case = no_case
  one_chosen row (Ok (Boolean true)) (Ok (Boolean false)) into become if_chosen if_not go_on e yes_case no_case = no_case
  one_chosen row (Ok (Boolean true)) (Ok (Boolean true)) (Err code) become if_chosen if_not go_on e yes_case no_case = ap (λ r. r >>= if_chosen) e
  one_chosen row (Ok (Boolean true)) (Ok (Boolean true)) (Ok new) become if_chosen if_not go_on e yes_case no_case = ap (λ r. r >>= if_chosen) e ∙ yes_case new

  pub chosen_is : (guard : Guard) (condition : Row → Outcome) (into : Row → Result Row SqlState) (becomes : Row → Result B SqlState) → ((row : Row) → becomes row ≡ (into row >>= λ x. Ok (keep x)))
      → (rows : List Row) (done : A) → over_chosen (is_chosen guard condition) becomes take done rows ≡ (each (choose guard condition into) rows >>= λ cs. Ok (all_taken done cs))
  chosen_is guard condition into becomes same [] done = refl
  chosen_is guard condition into becomes same (row ∷ rows) done =
      one_chosen row (guard row) (condition row) (into row) (becomes row) (λ new. over_chosen (is_chosen guard condition) becomes take (take row new done) rows)
      (over_chosen (is_chosen guard condition) becomes take done rows) (λ c. each (choose guard condition into) rows >>= λ ys. Ok (all_taken (take_if c.row c.new done) ys)) (same row)
      (λ new. chosen_is guard condition into becomes same rows (take row (keep new) done))
      (chosen_is guard condition into becomes same rows done)
      ∙ rest (choose guard condition into row)
    where
      rest : (r : Result Chosen SqlState) → (r >>= λ c. each (choose guard condition into) rows >>= λ ys. Ok (all_taken (take_if c.row c.new done) ys))
          ≡ ((r >>= λ y. each (choose guard condition into) rows >>= λ ys. Ok (y ∷ ys)) >>= λ cs. Ok (all_taken done cs))
      rest (Err code) = refl
      rest (Ok c) = sym (then_taken (each (choose guard condition into) rows) c done)

-- ---- the changes of rows that are chosen

module _ (id : ℕ) (layout : Layout) (keep : Row → Option Row) where
  if_changes : (row : Row) (new : Option Row) (done : ChosenRows) (cs : List Chosen) (records : Records) → IsOrdered done.changes → IsOrdered records
      → without_keys (old_keys id layout cs) (applied (take_if keep (taking id layout) row new done).changes records) ≡ without_keys (old_key id layout (record { row = row; new = new }) ++ old_keys id layout cs) (applied done.changes records)
  if_changes row None done cs records p o = refl
  if_changes row (Some new) done cs records p o = ap (without_keys (old_keys id layout cs)) (put_applied (row_record id layout row).0 None done.changes records p o)

  if_ordered : (row : Row) (new : Option Row) (done : ChosenRows) → IsOrdered done.changes → IsOrdered (take_if keep (taking id layout) row new done).changes
  if_ordered row None done p = p
  if_ordered row (Some new) done p = ordered_changed (row_record id layout row).0 (Some None) done.changes p

  if_concern : (row : Row) (new : Option Row) (done : ChosenRows) → ConcernRowsOf id done.changes → ConcernRowsOf id (take_if keep (taking id layout) row new done).changes
  if_concern row None done p = p
  if_concern row (Some new) done p =
      all_changed (λ (change : List ℕ × Option (List ℕ)). has_prefix (row_prefix id) change.0 ≡ true) (row_record id layout row).0 None done.changes (own_prefix (row_prefix id) (row_key layout row)) p

  if_count : (row : Row) (new : Option Row) (done : ChosenRows) (xs : List Row) → (take_if keep (taking id layout) row new done).count + length xs ≡ done.count + length (option_to_list new ++ xs)
  if_count row None done xs = refl
  if_count row (Some new) done xs = omega arith

  pub taken_changes : (done : ChosenRows) (cs : List Chosen) (records : Records) → IsOrdered done.changes → IsOrdered records
      → applied (all_taken keep (taking id layout) done cs).changes records ≡ without_keys (old_keys id layout cs) (applied done.changes records)
  taken_changes done [] records p o = refl
  taken_changes done (c ∷ cs) records p o = taken_changes (take_if keep (taking id layout) c.row c.new done) cs records (if_ordered c.row c.new done p) o ∙ if_changes c.row c.new done cs records p o

  pub taken_ordered : (done : ChosenRows) (cs : List Chosen) → IsOrdered done.changes → IsOrdered (all_taken keep (taking id layout) done cs).changes
  taken_ordered done [] p = p
  taken_ordered done (c ∷ cs) p = taken_ordered (take_if keep (taking id layout) c.row c.new done) cs (if_ordered c.row c.new done p)

  pub taken_concern : (done : ChosenRows) (cs : List Chosen) → ConcernRowsOf id done.changes → ConcernRowsOf id (all_taken keep (taking id layout) done cs).changes
  taken_concern done [] p = p
  taken_concern done (c ∷ cs) p = taken_concern (take_if keep (taking id layout) c.row c.new done) cs (if_concern c.row c.new done p)

  pub taken_count : (done : ChosenRows) (cs : List Chosen) → (all_taken keep (taking id layout) done cs).count ≡ done.count + length (new_rows cs)
  taken_count done [] = omega arith
  taken_count done (c ∷ cs) = taken_count (take_if keep (taking id layout) c.row c.new done) cs ∙ if_count c.row c.new done (new_rows cs)

if_rows : (id : ℕ) (layout : Layout) (row : Row) (new : Option Row) (done : ChosenRows) (xs : List Row) → (take_if (λ x. Some x) (taking id layout) row new done).rows ++ xs ≡ done.rows ++ (option_to_list new ++ xs)
if_rows id layout row None done xs = refl
if_rows id layout row (Some new) done xs = append_assoc done.rows (new ∷ []) xs

-- of an UPDATE all new rows are kept
pub taken_rows : (id : ℕ) (layout : Layout) (done : ChosenRows) (cs : List Chosen) → (all_taken (λ x. Some x) (taking id layout) done cs).rows ≡ done.rows ++ new_rows cs
taken_rows id layout done [] = sym (append-nil done.rows)
taken_rows id layout done (c ∷ cs) = taken_rows id layout (take_if (λ x. Some x) (taking id layout) c.row c.new done) cs ∙ if_rows id layout c.row c.new done (new_rows cs)

-- ---- what new rows are made of

pub all_append : {X : Type 0} (P : X → Type 0) (xs ys : List X) → AllByRecursion P xs → AllByRecursion P ys → AllByRecursion P (xs ++ ys)
all_append P [] ys a b = b
all_append P (x ∷ xs) ys a b = (a.0, all_append P xs ys a.1 b)

-- what is chosen of a row is the row with or without what it becomes
pub one_of : (Q : Chosen → Type 0) (row : Row) (guard condition : Outcome) (into : Result Row SqlState) (c : Chosen) → Q (record { row = row; new = None }) → ((new : Row) → into ≡ Ok new → Q (record { row = row; new = Some new }))
    → (guard >>= λ visible. when_true visible condition (Ok (Boolean false)) >>= λ chosen. when_true chosen (into >>= λ r. Ok (Some r)) (Ok None) >>= λ new. Ok (record { row = row; new = new })) ≡ Ok c
    → Q c
one_of Q row (Err code) condition into c without with e = cc
one_of Q row (Ok Null) condition into c without with e = subst Q (ok_inside _ c e) without
one_of Q row (Ok (Int n)) condition into c without with e = subst Q (ok_inside _ c e) without
one_of Q row (Ok (Text t)) condition into c without with e = subst Q (ok_inside _ c e) without
one_of Q row (Ok (Boolean false)) condition into c without with e = subst Q (ok_inside _ c e) without
one_of Q row (Ok (Boolean true)) (Err code) into c without with e = cc
one_of Q row (Ok (Boolean true)) (Ok Null) into c without with e = subst Q (ok_inside _ c e) without
one_of Q row (Ok (Boolean true)) (Ok (Int n)) into c without with e = subst Q (ok_inside _ c e) without
one_of Q row (Ok (Boolean true)) (Ok (Text t)) into c without with e = subst Q (ok_inside _ c e) without
one_of Q row (Ok (Boolean true)) (Ok (Boolean false)) into c without with e = subst Q (ok_inside _ c e) without
one_of Q row (Ok (Boolean true)) (Ok (Boolean true)) (Err code) c without with e = cc
one_of Q row (Ok (Boolean true)) (Ok (Boolean true)) (Ok new) c without with e = subst Q (ok_inside _ c e) (with new refl)

-- a choice keeps the row that it is about
row_kept : (guard : Guard) (condition : Row → Outcome) (into : Row → Result Row SqlState) (row : Row) (c : Chosen) → choose guard condition into row ≡ Ok c → c.row ≡ row
row_kept guard condition into row c e = one_of (λ (x : Chosen). x.row ≡ row) row (guard row) (condition row) (into row) c refl (λ new made. refl) e

pub rows_kept : (guard : Guard) (condition : Row → Outcome) (into : Row → Result Row SqlState) (rows : List Row) (cs : List Chosen) → each (choose guard condition into) rows ≡ Ok cs → map (λ c. c.row) cs ≡ rows
rows_kept guard condition into [] cs e = ap (map (λ c. c.row)) (sym (ok_inside [] cs e))
rows_kept guard condition into (row ∷ rows) cs e =
    let first = bind_ok (choose guard condition into row) _ cs e in
    let more = bind_ok (each (choose guard condition into) rows) _ cs first.2 in
    ap (map (λ c. c.row)) (sym (ok_inside (first.0 ∷ more.0) cs more.2))
    ∙ ap (λ (x : Row). x ∷ map (λ c. c.row) more.0) (row_kept guard condition into row first.0 first.1)
    ∙ ap (λ (xs : List Row). row ∷ xs) (rows_kept guard condition into rows more.0 more.1)

-- each new row is made of one of the rows
pub new_of : (P : Row → Type 0) (guard : Guard) (condition : Row → Outcome) (into : Row → Result Row SqlState) (rows : List Row) (cs : List Chosen) → Each (λ row. (new : Row) → into row ≡ Ok new → P new) rows
    → each (choose guard condition into) rows ≡ Ok cs → AllByRecursion P (new_rows cs)
new_of P guard condition into [] cs h e = subst (λ (xs : List Chosen). AllByRecursion P (new_rows xs)) (ok_inside [] cs e) tt
new_of P guard condition into (row ∷ rows) cs h e =
    let first = bind_ok (choose guard condition into row) _ cs e in
    let more = bind_ok (each (choose guard condition into) rows) _ cs first.2 in
    subst (λ (xs : List Chosen). AllByRecursion P (new_rows xs)) (ok_inside (first.0 ∷ more.0) cs more.2)
    (all_append P (option_to_list first.0.new) (new_rows more.0) (one_of (λ (x : Chosen). AllByRecursion P (option_to_list x.new)) row (guard row) (condition row) (into row) first.0 tt (λ new made. (h row (inl refl) new made, tt)) first.1)
    (new_of P guard condition into rows more.0 (λ x among. h x (inr among)) more.1))

-- each row of a list that is made
pub each_makes : {A : Type 0} (P : Row → Type 0) (f : A → Result Row SqlState) (xs : List A) (rows : List Row) → Each (λ x. (row : Row) → f x ≡ Ok row → P row) xs → each f xs ≡ Ok rows → AllByRecursion P rows
each_makes P f [] rows h e = subst (AllByRecursion P) (ok_inside [] rows e) tt
each_makes P f (x ∷ xs) rows h e =
    let first = bind_ok (f x) _ rows e in
    let more = bind_ok (each f xs) _ rows first.2 in
    subst (AllByRecursion P) (ok_inside (first.0 ∷ more.0) rows more.2) (h x (inl refl) first.0 first.1, each_makes P f xs more.0 (λ y among. h y (inr among)) more.1)

-- one more at most
one_kept : {X : Type 0} (xs : List X) (o : Option X) → length (xs ++ option_to_list o) ≤ length xs + 1
one_kept xs None = let long = length-append xs [] in omega (arith, long)
one_kept xs (Some x) = let long = length-append xs (x ∷ []) in omega (arith, long)

-- ---- the changes of what is chosen, whatever becomes of it

module _ (test : Row → Result Bool SqlState) (becomes : Row → Result (Option Row) SqlState) (id : ℕ) (layout : Layout) where
  after_choice : (row : Row) (rows : List Row) (done chosen : ChosenRows) (this : Bool) → ConcernRowsOf id done.changes
      → (if this then (becomes row >>= λ new. all_chosen test becomes id layout (with_chosen (row_record id layout row).0 new done) rows) else all_chosen test becomes id layout done rows) ≡ Ok chosen
      → ((next : ChosenRows) → ConcernRowsOf id next.changes → all_chosen test becomes id layout next rows ≡ Ok chosen → ConcernRowsOf id chosen.changes) → ConcernRowsOf id chosen.changes
  after_choice row rows done chosen false p e later = later done p e
  after_choice row rows done chosen true p e later =
      let new = bind_ok (becomes row) _ chosen e in
      let key = (row_record id layout row).0 in
      later (with_chosen key new.0 done)
      (all_changed (λ (change : List ℕ × Option (List ℕ)). has_prefix (row_prefix id) change.0 ≡ true) key None done.changes (own_prefix (row_prefix id) (row_key layout row)) p) new.2

  -- they are of rows of the table
  pub chosen_concern : (rows : List Row) (done chosen : ChosenRows) → ConcernRowsOf id done.changes → all_chosen test becomes id layout done rows ≡ Ok chosen → ConcernRowsOf id chosen.changes
  chosen_concern [] done chosen p e = subst (λ (c : ChosenRows). ConcernRowsOf id c.changes) (ok_inside done chosen e) p
  chosen_concern (row ∷ rows) done chosen p e =
      let first = bind_ok (test row) _ chosen e in
      after_choice row rows done chosen first.0 p first.2 (λ next q f. chosen_concern rows next chosen q f)

  kept_after : (row : Row) (rows : List Row) (done chosen : ChosenRows) (this : Bool)
      → (if this then (becomes row >>= λ new. all_chosen test becomes id layout (with_chosen (row_record id layout row).0 new done) rows) else all_chosen test becomes id layout done rows) ≡ Ok chosen
      → ((next : ChosenRows) → all_chosen test becomes id layout next rows ≡ Ok chosen → length chosen.rows ≤ length next.rows + length rows) → length chosen.rows ≤ length done.rows + (length rows + 1)
  kept_after row rows done chosen false e later = (let less = later done e in omega (arith, less))
  kept_after row rows done chosen true e later =
      let new = bind_ok (becomes row) _ chosen e in
      let less = later (with_chosen (row_record id layout row).0 new.0 done) new.2 in
      let more = one_kept done.rows new.0 in
      omega (arith, less, more)

  -- no more rows are kept than there are
  pub chosen_few : (rows : List Row) (done chosen : ChosenRows) → all_chosen test becomes id layout done rows ≡ Ok chosen → length chosen.rows ≤ length done.rows + length rows
  chosen_few [] done chosen e = subst (λ (c : ChosenRows). length c.rows ≤ length done.rows + 0) (ok_inside done chosen e) (omega arith)
  chosen_few (row ∷ rows) done chosen e =
      let first = bind_ok (test row) _ chosen e in
      let less = kept_after row rows done chosen first.0 first.2 (λ next f. chosen_few rows next chosen f) in
      omega (arith, less)
