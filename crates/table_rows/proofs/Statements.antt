-- INSERT, UPDATE and DELETE: what the code does of them, and what they mean.
use Rattle.std.proofs.Common.{◌≡◌, ℕ, Bool, true, false, not, List, [], ◌∷◌, ◌++◌, map, length, Option, Some, None, Result, Ok, Err, refl, sym, ap, ◌∙◌, subst, arith}
use Rattle.std.specs.Borrow.{Bor}
use Rattle.std.specs.List.{AllByRecursion, list_all}
use Rattle.std.proofs.lemmas.Bool.{and_parts}
use Rattle.sql_types.specs.declared.state.SqlState.{SqlState}
use Rattle.sql_types.specs.declared.state.SqlState.TheVariants.{UniqueViolation}
use Rattle.sql_types.specs.Row.{Row}
use Rattle.sql_ast.specs.Layout.{Layout}
use Rattle.sql_ast.specs.Rows.{fits_record}
use Rattle.sql_ast.specs.Fits.{FitsTable}
use Rattle.expressions.specs.Outcome.{Outcome}
use Rattle.expressions.specs.Stages.{◌>>=◌, require, each}
use Rattle.expressions.specs.Types.{TypedTerm}
use Rattle.expressions.proofs.Results.{bind_ok, bind_err, ok_inside}
use Rattle.store.specs.declared.fault.Fault.TheVariants.{Memory, Device, Damaged}
use Rattle.store.specs.Records.{Records, Changes, IsOrdered, applied}
use Rattle.abstract_database.specs.Guards.{Guard}
use Rattle.abstract_database.specs.Changes.{Chosen, Changed, CheckedInsert, CheckedUpdate, CheckedDelete, choose, condition_on_row, inserted_row, new_rows, other_rows, keeps_not_null, checked_rows, has_double_key, with_rows, rows_updated, rows_deleted}
use Rattle.abstract_database.specs.Whole.{Each}
use Rattle.table_rows.specs.HeldRows.{HoldsRows, ConcernRowsOf}
use Rattle.store.specs.declared.stop.StatementError.{StatementError}
use Rattle.store.specs.declared.stop.StatementError.TheVariants.{Refused, Failed}
use Rattle.table_rows.specs.declared.choose.ChosenRows.{ChosenRows}
use Rattle.table_rows.specs.declared.change.RowChanges.{RowChanges}
use Rattle.table_rows.specs.declared.target.Target.{Target}
use Rattle.table_rows.specs.declared.target.Insertion.{Insertion}
use Rattle.table_rows.specs.declared.target.Assignments.{Assignments}
use Rattle.table_rows.specs.Failures.{Gives, Answers}
use Rattle.table_rows.specs.Puts.{PutsAll, PutsRows}
use Rattle.table_rows.specs.Targets.{users_of, terms_in, condition_in, assigned_by, inserted_by, IsInsert, IsUpdate, IsDelete}
use Rattle.table_rows.specs.Choosing.{is_chosen, taking, all_chosen, nothing_chosen}
use Rattle.table_rows.specs.NewRows.{new_rows_checked, inserted, GiveFittingRows, MakesChanges}
use Rattle.table_rows.proofs.Changing.{each_of, others_are_held}
use Rattle.table_rows.proofs.Checking.{checked_is, passed}
use Rattle.table_rows.proofs.Chosen.{all_taken, chosen_is, taken_changes, taken_ordered, taken_concern, taken_count, taken_rows, rows_kept, new_of, each_makes}

-- ---- rows are chosen

-- what the code chose is what the definition chooses
pub record Picked (id : ℕ) (layout : Layout) (keep : Row → Option Row) (guard : Guard) (condition : Row → Outcome) (into : Row → Result Row SqlState) (rows : List Row) (records : Records) (chosen : ChosenRows) : Type 0 where
  pub cs : List Chosen
  pub each_is : each (choose guard condition into) rows ≡ Ok cs
  pub taken : all_taken keep (taking id layout) nothing_chosen cs ≡ chosen
  pub held : HoldsRows id layout (applied chosen.changes records) (other_rows cs)
  pub ordered : IsOrdered chosen.changes
  pub concern : ConcernRowsOf id chosen.changes
  pub count : chosen.count ≡ length (new_rows cs)

module _ (id : ℕ) (layout : Layout) (keep : Row → Option Row) (guard : Guard) (condition : Row → Outcome) (into : Row → Result Row SqlState) (becomes : Row → Result (Option Row) SqlState)
    (same : (row : Row) → becomes row ≡ (into row >>= λ x. Ok (keep x))) where
  pub picked : (rows : List Row) (records : Records) (chosen : ChosenRows) → IsOrdered records → HoldsRows id layout records rows → all_chosen (is_chosen guard condition) becomes id layout nothing_chosen rows ≡ Ok chosen
      → Picked id layout keep guard condition into rows records chosen
  picked rows records chosen o h e =
      let whole : (each (choose guard condition into) rows >>= λ cs. Ok (all_taken keep (taking id layout) nothing_chosen cs)) ≡ Ok chosen = sym (chosen_is keep (taking id layout) guard condition into becomes same rows nothing_chosen) ∙ e in
      let found = bind_ok (each (choose guard condition into) rows) _ chosen whole in
      let cs : List Chosen = found.0 in
      let taken : all_taken keep (taking id layout) nothing_chosen cs ≡ chosen = ok_inside (all_taken keep (taking id layout) nothing_chosen cs) chosen found.2 in
      let count : (all_taken keep (taking id layout) nothing_chosen cs).count ≡ length (new_rows cs) = (let n = taken_count id layout keep nothing_chosen cs in omega (arith, n)) in
      record {
        cs = cs;
        each_is = found.1;
        taken = taken;
        held = subst (λ (x : ChosenRows). HoldsRows id layout (applied x.changes records) (other_rows cs)) taken
            (subst (λ (es : Records). HoldsRows id layout es (other_rows cs)) (sym (taken_changes id layout keep nothing_chosen cs records tt o))
            (others_are_held id layout records cs o (subst (HoldsRows id layout records) (sym (rows_kept guard condition into rows cs found.1)) h)));
        ordered = subst (λ (x : ChosenRows). IsOrdered x.changes) taken (taken_ordered id layout keep nothing_chosen cs tt);
        concern = subst (λ (x : ChosenRows). ConcernRowsOf id x.changes) taken (taken_concern id layout keep nothing_chosen cs tt);
        count = ap (λ (x : ChosenRows). x.count) (sym taken) ∙ count;
      }

  -- a refusal of the choice is that of the statement
  pub not_chosen : (rows : List Row) (records : Records) (go : List Chosen → Result Changed SqlState) (failure : StatementError) → (let r : Result ChosenRows StatementError = Err failure in Answers r (all_chosen (is_chosen guard condition) becomes id layout nothing_chosen rows))
      → MakesChanges id layout records (Err failure) (each (choose guard condition into) rows >>= go)
  not_chosen rows records go (Refused code) e =
      ap (λ r. r >>= go) (bind_err (each (choose guard condition into) rows) (all_taken keep (taking id layout) nothing_chosen) code (sym (chosen_is keep (taking id layout) guard condition into becomes same rows nothing_chosen) ∙ e))
  not_chosen rows records go (Failed Memory) e = tt
  not_chosen rows records go (Failed Device) e = tt
  not_chosen rows records go (Failed Damaged) e = e

-- ---- DELETE

-- the rows that a DELETE leaves, and how many it takes away
abbrev pub all_others : List Chosen → Result Changed SqlState
all_others cs = Ok (record { rows = other_rows cs; count = length (new_rows cs) })

pub deleted : (id : ℕ) (layout : Layout) (guard : Guard) (condition : Row → Outcome) (rows : List Row) (records : Records) (chosen : ChosenRows) → Picked id layout (λ x. None) guard condition (λ row. Ok row) rows records chosen
    → MakesChanges id layout records (Ok (record { changes = chosen.changes; count = chosen.count })) (each (choose guard condition (λ row. Ok row)) rows >>= all_others)
deleted id layout guard condition rows records chosen p = (
  record { rows = other_rows p.cs; count = length (new_rows p.cs) },
  ap (λ r. r >>= all_others) p.each_is,
  record { held = p.held; concern = p.concern; count = p.count },
)

pub delete_is : (target : Target) (condition : Option (Bor TypedTerm)) (c : CheckedDelete) (guard : Guard) (rows : List Row) → IsDelete target condition c
    → rows_deleted guard (users_of target) c rows ≡ (each (choose guard (condition_on_row (users_of target) (condition_in condition)) (λ row. Ok row)) rows >>= all_others)
delete_is target condition c guard rows h = rw h.where_is refl

-- ---- new rows are checked and put

abbrev pub counted : ℕ → Result (List Row) SqlState → Result Changed SqlState
counted n r = r >>= λ after. Ok (record { rows = after; count = n })

module _ (id : ℕ) (layout : Layout) (guard : Guard) (others new : List Row) (records : Records) (n : ℕ) (meant : Result Changed SqlState) (is : meant ≡ counted n (checked_rows layout guard others new)) where
  pub check_failed : (code : SqlState) → new_rows_checked layout guard new ≡ Err code → MakesChanges id layout records (Err (Refused code)) meant
  check_failed code e = is ∙ ap (counted n) (checked_is layout guard others new ∙ ap (λ r. r >>= λ checked. require (not (has_double_key layout.key (others ++ new))) UniqueViolation >>= λ unique. Ok (with_rows layout.key new others)) e)

  last_stage : (x : Unit {0}) (double : Bool) → new_rows_checked layout guard new ≡ Ok x → has_double_key layout.key (others ++ new) ≡ double
      → meant ≡ counted n (require (not double) UniqueViolation >>= λ unique. Ok (with_rows layout.key new others))
  last_stage x double e d =
      is ∙ ap (counted n) (checked_is layout guard others new ∙ ap (λ r. r >>= λ checked. require (not (has_double_key layout.key (others ++ new))) UniqueViolation >>= λ unique. Ok (with_rows layout.key new others)) e
      ∙ ap (λ b. require (not b) UniqueViolation >>= λ unique. Ok (with_rows layout.key new others)) d)

  pub put_failed : (x : Unit {0}) (failure : StatementError) (old now : Changes) → new_rows_checked layout guard new ≡ Ok x → (let r : Result (Unit {0}) StatementError = Err failure in PutsRows r id layout new others records old now)
      → MakesChanges id layout records (Err failure) meant
  put_failed x (Refused code) old now e h = last_stage x true e h.0 ∙ ap (λ (s : SqlState). Err s) (sym h.1)
  put_failed x (Failed Memory) old now e h = tt
  put_failed x (Failed Device) old now e h = tt
  put_failed x (Failed Damaged) old now e h = h

  pub put_done : (x : Unit {0}) (old : Changes) (made : RowChanges) → new_rows_checked layout guard new ≡ Ok x → PutsAll id layout new others records old made.changes → ConcernRowsOf id old → made.count ≡ n
      → MakesChanges id layout records (Ok made) meant
  put_done x old made e h concern count = (
    record { rows = with_rows layout.key new others; count = n },
    last_stage x false e h.unique,
    record { held = h.held; concern = h.concern concern; count = count },
  )

-- new rows that passed the checks fit the table
both_tests : (layout : Layout) (rows : List Row) → AllByRecursion (λ row. keeps_not_null layout.columns row ≡ true → fits_record layout row ≡ true → FitsTable layout row) rows
    → list_all (keeps_not_null layout.columns) rows ≡ true → list_all (fits_record layout) rows ≡ true → AllByRecursion (FitsTable layout) rows
both_tests layout [] all a b = tt
both_tests layout (row ∷ rows) all a b =
    let p = and_parts (keeps_not_null layout.columns row) (list_all (keeps_not_null layout.columns) rows) a in
    let q = and_parts (fits_record layout row) (list_all (fits_record layout) rows) b in
    (all.0 p.0 q.0, both_tests layout rows all.1 p.1 q.1)

pub new_rows_fit : (layout : Layout) (guard : Guard) (rows : List Row) (x : Unit {0}) → AllByRecursion (λ row. keeps_not_null layout.columns row ≡ true → fits_record layout row ≡ true → FitsTable layout row) rows
    → new_rows_checked layout guard rows ≡ Ok x → Each (FitsTable layout) rows
new_rows_fit layout guard rows x all e = let tests = passed layout guard rows x e in each_of (FitsTable layout) rows (both_tests layout rows all tests.0 tests.1)

-- ---- UPDATE

pub update_is : (target : Target) (condition : Option (Bor TypedTerm)) (assignments : Assignments) (c : CheckedUpdate) (existing admitting : Guard) (rows : List Row) → IsUpdate target condition assignments c
    → rows_updated existing admitting (users_of target) c rows
    ≡ (each (choose existing (condition_on_row (users_of target) (condition_in condition)) (assigned_by target assignments)) rows
    >>= λ chosen. counted (length (new_rows chosen)) (checked_rows target.columns.now admitting (other_rows chosen) (new_rows chosen)))
update_is target condition assignments c existing admitting rows h = rw (h.layout, h.columns, h.values, h.where_is) refl

pub update_meant : (layout : Layout) (existing admitting : Guard) (condition : Row → Outcome) (into : Row → Result Row SqlState) (id : ℕ) (rows : List Row) (records : Records) (chosen : ChosenRows)
    → (p : Picked id layout (λ x. Some x) existing condition into rows records chosen)
    → (each (choose existing condition into) rows >>= λ cs. counted (length (new_rows cs)) (checked_rows layout admitting (other_rows cs) (new_rows cs)))
    ≡ counted chosen.count (checked_rows layout admitting (other_rows p.cs) chosen.rows)
update_meant layout existing admitting condition into id rows records chosen p =
    ap (λ r. r >>= λ cs. counted (length (new_rows cs)) (checked_rows layout admitting (other_rows cs) (new_rows cs))) p.each_is
    ∙ ap (λ n. counted n (checked_rows layout admitting (other_rows p.cs) (new_rows p.cs))) (sym p.count)
    ∙ ap (λ (xs : List Row). counted chosen.count (checked_rows layout admitting (other_rows p.cs) xs)) (sym (rows_are id layout existing condition into rows records chosen p))
  where
    rows_are : (id : ℕ) (layout : Layout) (existing : Guard) (condition : Row → Outcome) (into : Row → Result Row SqlState) (rows : List Row) (records : Records) (chosen : ChosenRows)
        → (p : Picked id layout (λ x. Some x) existing condition into rows records chosen) → chosen.rows ≡ new_rows p.cs
    rows_are id layout existing condition into rows records chosen p = ap (λ (x : ChosenRows). x.rows) (sym p.taken) ∙ taken_rows id layout nothing_chosen p.cs

pub updated_fit : (layout : Layout) (guard admitting : Guard) (condition : Row → Outcome) (into : Row → Result Row SqlState) (id : ℕ) (rows : List Row) (records : Records) (chosen : ChosenRows) (x : Unit {0})
    → (p : Picked id layout (λ x. Some x) guard condition into rows records chosen) → GiveFittingRows layout into rows → new_rows_checked layout admitting chosen.rows ≡ Ok x → Each (FitsTable layout) chosen.rows
updated_fit layout guard admitting condition into id rows records chosen x p gives e =
    let rows_are : chosen.rows ≡ new_rows p.cs = ap (λ (x : ChosenRows). x.rows) (sym p.taken) ∙ taken_rows id layout nothing_chosen p.cs in
    new_rows_fit layout admitting chosen.rows x
    (subst (AllByRecursion (λ row. keeps_not_null layout.columns row ≡ true → fits_record layout row ≡ true → FitsTable layout row)) (sym rows_are)
    (new_of (λ row. keeps_not_null layout.columns row ≡ true → fits_record layout row ≡ true → FitsTable layout row) guard condition into rows p.cs gives p.each_is)) e

-- ---- INSERT

each_map : {A B C : Type 0} (f : B → Result C SqlState) (g : A → B) (xs : List A) → each f (map g xs) ≡ each (λ x. f (g x)) xs
each_map f g [] = refl
each_map f g (x ∷ xs) = ap (λ r. f (g x) >>= λ y. r >>= λ ys. Ok (y ∷ ys)) (each_map f g xs)

pub length_map : {A B : Type 0} (g : A → B) (xs : List A) → length (map g xs) ≡ length xs
length_map g [] = refl
length_map g (x ∷ xs) = let later = length_map g xs in omega (arith, later)

pub insert_is : (target : Target) (insertion : Insertion) (c : CheckedInsert) (admitting : Guard) (rows : List Row) → IsInsert target insertion c
    → inserted admitting (users_of target) c rows
    ≡ (each (inserted_by target insertion) insertion.rows.now >>= λ new. counted (length insertion.rows.now) (checked_rows target.columns.now admitting rows new))
insert_is target insertion c admitting rows h =
    let first : inserted admitting (users_of target) c rows
    ≡ counted (length (map terms_in insertion.rows.now)) (each (inserted_row target.columns.now (users_of target) insertion.columns.now) (map terms_in insertion.rows.now) >>= λ new. checked_rows target.columns.now admitting rows new)
    = rw (h.layout, h.columns, h.rows) refl in
    first
    ∙ ap (λ n. counted n (each (inserted_row target.columns.now (users_of target) insertion.columns.now) (map terms_in insertion.rows.now) >>= λ new. checked_rows target.columns.now admitting rows new)) (length_map terms_in insertion.rows.now)
    ∙ ap (λ r. counted (length insertion.rows.now) (r >>= λ new. checked_rows target.columns.now admitting rows new)) (each_map (inserted_row target.columns.now (users_of target) insertion.columns.now) terms_in insertion.rows.now)
    ∙ turned (each (inserted_by target insertion) insertion.rows.now)
  where
    turned : (r : Result (List Row) SqlState) → counted (length insertion.rows.now) (r >>= λ new. checked_rows target.columns.now admitting rows new) ≡ (r >>= λ new. counted (length insertion.rows.now) (checked_rows target.columns.now admitting rows new))
    turned (Ok new) = refl
    turned (Err code) = refl

-- rows that are not made
pub not_made : {A : Type 0} (id : ℕ) (layout : Layout) (records : Records) (f : A → Result Row SqlState) (xs : List A) (go : List Row → Result Changed SqlState) (failure : StatementError) → (let r : Result (List Row) StatementError = Err failure in Gives r (each f xs))
    → MakesChanges id layout records (Err failure) (each f xs >>= go)
not_made id layout records f xs go (Refused code) e = ap (λ r. r >>= go) e
not_made id layout records f xs go (Failed Memory) e = tt
not_made id layout records f xs go (Failed Device) e = tt
not_made id layout records f xs go (Failed Damaged) e = e

pub inserted_fit : {A : Type 0} (layout : Layout) (guard : Guard) (f : A → Result Row SqlState) (xs : List A) (new : List Row) (x : Unit {0}) → GiveFittingRows layout f xs → each f xs ≡ Ok new → new_rows_checked layout guard new ≡ Ok x
    → Each (FitsTable layout) new
inserted_fit layout guard f xs new x gives made e =
    new_rows_fit layout guard new x (each_makes (λ row. keeps_not_null layout.columns row ≡ true → fits_record layout row ≡ true → FitsTable layout row) f xs new gives made) e
