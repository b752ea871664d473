-- What refuses INSERT, UPDATE and DELETE, by the names in their texts.
use Rattle.std.proofs.Common.{◌≡◌, ◌⊎◌, ℕ, not, Bool, true, false, length, List, [], ◌∷◌, ◌++◌, Option, Some, None, Result, Ok, Err, refl, sym, ap, ◌∙◌, subst, inl, inr}
use Rattle.sql_types.specs.Row.{Row}
use Rattle.std.specs.List.{list_all}
use Rattle.sql_types.specs.declared.state.SqlState.{SqlState}
use Rattle.sql_types.specs.declared.state.SqlState.TheVariants.{InsufficientPrivilege, NotNullViolation, ProgramLimitExceeded, UniqueViolation}
use Rattle.sql_types.specs.declared.value.Value.{Value}
use Rattle.sql_types.specs.declared.value.Value.TheVariants.{Null, Int, Text, Bool as Boolean}
use Rattle.sql_ast.specs.Rows.{fits_record}
use Rattle.sql_types.specs.declared.tag.Tag.TheVariants as tag
use Rattle.sql_ast.specs.declared.expression.ColumnName.{ColumnName}
use Rattle.sql_ast.specs.declared.scope.ColumnIndex.{ColumnIndex}
use Rattle.sql_ast.specs.declared.privilege.Action.{Action}
use Rattle.sql_ast.specs.declared.privilege.Action.TheVariants as action
use Rattle.sql_ast.specs.declared.statement.Insert.{Insert}
use Rattle.sql_ast.specs.declared.statement.Assignment.{Assignment}
use Rattle.sql_ast.specs.declared.statement.Update.{Update}
use Rattle.sql_ast.specs.declared.statement.Delete.{Delete}
use Rattle.sql_ast.specs.Term.{Term}
use Rattle.expressions.specs.Outcome.{Outcome}
use Rattle.expressions.specs.Meaning.{UserNames}
use Rattle.expressions.specs.Names.{resolved}
use Rattle.expressions.specs.Stages.{◌>>=◌, require, each}
use Rattle.expressions.proofs.Meanings.{resolved_means}
use Rattle.abstract_database.specs.Lists.{Among, optional}
use Rattle.abstract_database.specs.Database.{TableOf, Database, definition_named, rows_named}
use Rattle.abstract_database.specs.Expressions.{own_scope, cell_in, bound_value, value_on, when_true}
use Rattle.abstract_database.specs.Guards.{Guard, guard, using_clause, check_clause, with_select, existing_guard, new_guard}
use Rattle.abstract_database.specs.Needs.{has_any}
use Rattle.std.proofs.lemmas.Option.{same_Some}
use Rattle.abstract_database.specs.Checks.{target_columns}
use Rattle.abstract_database.specs.Changes.{Chosen, CheckedInsert, CheckedUpdate, CheckedDelete, rows_updated, assigned, replaced, choose, condition_on_row, new_rows, other_rows, rows_deleted, rows_inserted, inserted_row, arranged, is_admitted, checked_rows, keeps_not_null, has_double_key, with_rows}
use Rattle.abstract_database.specs.Checks.{new_values, checked_insert, checked_update, checked_delete}
use Rattle.abstract_database.specs.Definitions.{with_rows_of}
use Rattle.abstract_database.specs.Statements.{counted, inserted, insert, updated, update, deleted, delete}
use Rattle.abstract_database.proofs.CheckLemmas.{found_definition, insert_checked, UpdateFacts, update_checked, delete_checked}
use Rattle.abstract_database.proofs.ResultLemmas.{ok_inside, bind_ok, require_ok, each_to}
use Rattle.database_laws.specs.Readings.{columns_read_by_update, columns_read_by_delete}
use Rattle.database_laws.specs.Visible.{is_met}
use Rattle.database_laws.specs.Refusals.{FailsOnRow, in_guard, in_select_guard, in_where, IsFirst, IsFailure, IsOther, AllAdmitted, TurnsAway, check_fails, not_admitted, select_guard_fails, not_seen, RefusesNewRows, turned_away, is_null, is_large, is_double, InsertFails, in_values, in_new_rows, FailsOnUpdate, in_row, in_assignment, UpdateFails, on_row, in_replaced_rows}
use Rattle.database_laws.specs.RowChanges.{row_given}
use Rattle.abstract_database.proofs.ValueTypes.{by_names}
use Rattle.database_laws.proofs.ConcernLemmas.{each_bound, given_by_names, updated_is, splits_by_names}
use Rattle.database_laws.proofs.QueryLemmas.{into_map}
use Rattle.database_laws.proofs.ReadingLemmas.{update_as_written, delete_as_written}
use Rattle.database_laws.proofs.VisibleLemmas.{and_true, with_select_met, becoming, chosen_as}
use Rattle.database_laws.proofs.WriteLemmas.{with_select_passes, admitted_one, same_definition, rows_before}
use Rattle.database_laws.proofs.FirstLemmas.{stops, goes_on, not_ok, met_is, in_list_of, first_refused, first_failure, first_of_map}
use Rattle.database_laws.proofs.ErrorLemmas.{bind_err, first_err, both_err, RefusesRow, by_guard, by_condition, by_change, choose_err}

-- ---- rows that are read

module _ (db : Database) (users : UserNames) (d : TableOf) (code : SqlState) where
  with_select_err : (reads : Bool) (first : Guard) (row : Row) → with_select db users d reads first row ≡ Err code →
      (first row ≡ Err code) ⊎ ((is_met (first row) ≡ true) × (reads ≡ true) × (guard db users d action.Select using_clause row ≡ Err code))
  with_select_err false first row e = inl e
  with_select_err true first row e = elim (both_err (first row) (guard db users d action.Select using_clause row) code e) [
    | inl h ↦ inl h
    | inr h ↦ inr (h.0, refl, h.1)
  ]

  where_err : (condition : Option (Term ColumnName)) (bound : Option (Term ColumnIndex)) → optional (resolved (own_scope d)) condition ≡ Ok bound → (row : Row) → condition_on_row users bound row ≡ Err code →
      (term : Term ColumnName) × (condition ≡ Some term) × (value_on (own_scope d) users (row ∷ []) term ≡ Err code)
  where_err None bound e row h =
      let contrary : condition_on_row users None row ≡ Err code = ap (λ b. condition_on_row users b row) (ok_inside None bound e) ∙ h in cc
  where_err (Some term) bound e row h =
      let found = bind_ok (resolved (own_scope d) term) (λ y. Ok (Some y)) bound e in
      (term, refl, sym (resolved_means (own_scope d) (cell_in (row ∷ [])) users term found.0 found.1) ∙ ap (λ b. condition_on_row users b row) (ok_inside (Some found.0) bound found.2) ∙ h)

  -- a guard that fails, and a condition that does
  guard_cause : (a : Action) (reads : Bool) (condition : Option (Term ColumnName)) (row : Row) → with_select db users d reads (guard db users d a using_clause) row ≡ Err code → FailsOnRow db users d a reads condition row code
  guard_cause a reads condition row e = elim (with_select_err reads (guard db users d a using_clause) row e) [
    | inl h ↦ in_guard h
    | inr h ↦ in_select_guard h.0 h.1 h.2
  ]

  where_cause : (a : Action) (reads : Bool) (condition : Option (Term ColumnName)) (bound : Option (Term ColumnIndex)) → optional (resolved (own_scope d)) condition ≡ Ok bound → (row : Row) →
      is_met (with_select db users d reads (guard db users d a using_clause) row) ≡ true → condition_on_row users bound row ≡ Err code → FailsOnRow db users d a reads condition row code
  where_cause a reads condition bound e row met h =
      let found = where_err condition bound e row h in
      in_where (sym (and_true _) ∙ sym (with_select_met db users d reads (guard db users d a using_clause) row) ∙ met) found.0 found.1 found.2

  -- a cause on a row refuses what is chosen of it
  with_select_fails : (reads : Bool) (first : Guard) (row : Row) → first row ≡ Err code → with_select db users d reads first row ≡ Err code
  with_select_fails false first row e = e
  with_select_fails true first row e = stops (first row) (λ v. when_true v (guard db users d action.Select using_clause row) (Ok v)) code e

  second_fails : (reads : Bool) (first : Guard) (row : Row) → reads ≡ true → is_met (first row) ≡ true → guard db users d action.Select using_clause row ≡ Err code → with_select db users d reads first row ≡ Err code
  second_fails reads first row is met e =
      ap (λ (b : Bool). with_select db users d b first row) is
      ∙ goes_on (first row) (λ v. when_true v (guard db users d action.Select using_clause row) (Ok v)) (Boolean true) code (met_is (first row) met) e

  where_fails : (condition : Option (Term ColumnName)) (bound : Option (Term ColumnIndex)) → optional (resolved (own_scope d)) condition ≡ Ok bound → (row : Row) (term : Term ColumnName) → condition ≡ Some term →
      value_on (own_scope d) users (row ∷ []) term ≡ Err code → condition_on_row users bound row ≡ Err code
  where_fails None bound e row term is h = cc
  where_fails (Some other) bound e row term is h =
      let found = bind_ok (resolved (own_scope d) other) (λ y. Ok (Some y)) bound e in
      ap (λ b. condition_on_row users b row) (sym (ok_inside (Some found.0) bound found.2))
      ∙ resolved_means (own_scope d) (cell_in (row ∷ [])) users other found.0 found.1
      ∙ ap (λ (t : Term ColumnName). value_on (own_scope d) users (row ∷ []) t) (same_Some other term is)
      ∙ h

  cause_refuses : (a : Action) (reads : Bool) (condition : Option (Term ColumnName)) (bound : Option (Term ColumnIndex)) → optional (resolved (own_scope d)) condition ≡ Ok bound → (becomes : Row → Result Row SqlState) (row : Row) →
      FailsOnRow db users d a reads condition row code → choose (with_select db users d reads (guard db users d a using_clause)) (condition_on_row users bound) becomes row ≡ Err code
  cause_refuses a reads condition bound e becomes row (in_guard h) = stops (with_select db users d reads (guard db users d a using_clause) row) _ code (with_select_fails reads (guard db users d a using_clause) row h)
  cause_refuses a reads condition bound e becomes row (in_select_guard met is h) = stops (with_select db users d reads (guard db users d a using_clause) row) _ code (second_fails reads (guard db users d a using_clause) row is met h)
  cause_refuses a reads condition bound e becomes row (in_where met term is h) =
      let passes = met_is (with_select db users d reads (guard db users d a using_clause) row) (with_select_met db users d reads (guard db users d a using_clause) row ∙ and_true _ ∙ met) in
      goes_on (with_select db users d reads (guard db users d a using_clause) row) _ (Boolean true) code passes (stops (condition_on_row users bound row) _ code (where_fails condition bound e row term is h))

-- ---- DELETE

pub delete_cause : (db : Database) (users : UserNames) (s : Delete) (t : TableOf) (code : SqlState) → definition_named db s.table ≡ Some t → delete db users s ≡ Err code →
    (checked_delete db users s ≡ Err code)
    ⊎ ((row : Row) × IsFirst (λ r. (c : SqlState) × FailsOnRow db users t action.Delete (has_any (columns_read_by_delete s)) s.condition r c) row (rows_named db s.table)
    × FailsOnRow db users t action.Delete (has_any (columns_read_by_delete s)) s.condition row code)
delete_cause db users s t code named e = elim (bind_err (checked_delete db users s) (deleted db users) code e) [
  | inl h ↦ inl h
  | inr later ↦ inr (of_rows later.0 later.1 later.2)
] where
  of_rows : (c : CheckedDelete) → checked_delete db users s ≡ Ok c → deleted db users c ≡ Err code →
      (row : Row) × IsFirst (λ r. (c : SqlState) × FailsOnRow db users t action.Delete (has_any (columns_read_by_delete s)) s.condition r c) row (rows_named db s.table)
      × FailsOnRow db users t action.Delete (has_any (columns_read_by_delete s)) s.condition row code
  of_rows c is h =
      let facts = delete_checked db users s c is in
      let f = found_definition db s.table c.table facts.found in
      let g = existing_guard db users c.table action.Delete c.reads in
      let condition = condition_on_row users c.condition in
      let stays = λ (row : Row). let r : Result Row SqlState = Ok row in r in
      let rows = first_err (rows_deleted g users c (rows_named db c.table.name)) (λ changed. counted tag.Delete changed.count (with_rows_of c.table.name changed.rows db)) code h in
      let all = first_err (each (choose g condition stays) (rows_named db c.table.name)) (λ chosen. record { rows = other_rows chosen; count = length (new_rows chosen) }) code rows in
      let row = first_refused (choose g condition stays) (λ r. (k : SqlState) × FailsOnRow db users c.table action.Delete c.reads s.condition r k)
      (λ r x ok fails. not_ok (choose g condition stays r) x fails.0 ok (cause_refuses db users c.table fails.0 action.Delete c.reads s.condition c.condition facts.condition stays r fails.1))
      (rows_named db c.table.name) code (λ r among refused. (code, by_cause r (choose_err g condition stays r code refused))) all in
      let same = same_definition db s.table t c.table named facts.found in
      let cause = by_cause row.0 (choose_err g condition stays row.0 code row.2) in (
        row.0,
        subst (λ l. IsFirst (λ r. (k : SqlState) × FailsOnRow db users t action.Delete (has_any (columns_read_by_delete s)) s.condition r k) row.0 l) (rows_before db s.table c.table f)
            (subst (λ x. IsFirst (λ r. (k : SqlState) × FailsOnRow db users x action.Delete (has_any (columns_read_by_delete s)) s.condition r k) row.0 (rows_named db c.table.name)) same
            (subst (λ b. IsFirst (λ r. (k : SqlState) × FailsOnRow db users c.table action.Delete b s.condition r k) row.0 (rows_named db c.table.name)) (delete_as_written db users s c facts) row.1)),
        subst (λ x. FailsOnRow db users x action.Delete (has_any (columns_read_by_delete s)) s.condition row.0 code) same
            (subst (λ b. FailsOnRow db users c.table action.Delete b s.condition row.0 code) (delete_as_written db users s c facts) cause),
      )
    where
      by_cause : (row : Row) → RefusesRow (existing_guard db users c.table action.Delete c.reads row) (condition_on_row users c.condition row) (Ok row) code → FailsOnRow db users c.table action.Delete c.reads s.condition row code
      by_cause row (by_guard h) = guard_cause db users c.table code action.Delete c.reads s.condition row h
      by_cause row (by_condition met h) = where_cause db users c.table code action.Delete c.reads s.condition c.condition (delete_checked db users s c is).condition row met h
      by_cause row (by_change met h) = cc

-- ---- new rows

bool_not : (b : Bool) → not b ≡ false → b ≡ true
bool_not true e = refl
bool_not false e = cc

require_err : (b : Bool) (wanted code : SqlState) → require b wanted ≡ Err code → (b ≡ false) × (wanted ≡ code)
require_err true wanted code e = cc
require_err false wanted code e = (refl, cc)

admitted_err : (o : Outcome) (code : SqlState) → (o >>= λ v. require (when_true v true false) InsufficientPrivilege) ≡ Err code → (o ≡ Err code) ⊎ (IsOther o × (InsufficientPrivilege ≡ code))
admitted_err (Ok (Boolean true)) code e = cc
admitted_err (Ok (Boolean false)) code e = inr ((Boolean false, refl, λ is. cc), cc)
admitted_err (Ok Null) code e = inr ((Null, refl, λ is. cc), cc)
admitted_err (Ok (Int n)) code e = inr ((Int n, refl, λ is. cc), cc)
admitted_err (Ok (Text t)) code e = inr ((Text t, refl, λ is. cc), cc)
admitted_err (Err c) code e = inl cc

-- an outcome other than true is not admitted
other_refused : (v : Value) → (v ≡ Boolean true → ⊥) → require (when_true v true false) InsufficientPrivilege ≡ Err InsufficientPrivilege
other_refused (Boolean true) h = absurd (h refl)
other_refused (Boolean false) h = refl
other_refused Null h = refl
other_refused (Int n) h = refl
other_refused (Text t) h = refl

-- of two guards the first is other than true, or it is met and the second one is
both_other : (o p : Outcome) → IsOther (o >>= λ v. when_true v p (Ok v)) → IsOther o ⊎ ((is_met o ≡ true) × IsOther p)
both_other (Ok (Boolean true)) p h = inr (refl, h)
both_other (Ok (Boolean false)) p h = inl (Boolean false, refl, λ is. cc)
both_other (Ok Null) p h = inl (Null, refl, λ is. cc)
both_other (Ok (Int n)) p h = inl (Int n, refl, λ is. cc)
both_other (Ok (Text t)) p h = inl (Text t, refl, λ is. cc)
both_other (Err c) p h = absurd (not_ok (Err c) h.0 c h.1 refl)

kept_other : (o p : Outcome) → IsOther o → IsOther (o >>= λ v. when_true v p (Ok v))
kept_other (Ok (Boolean true)) p h = absurd (h.2 (ok_inside h.0 (Boolean true) (sym h.1)))
kept_other (Ok (Boolean false)) p h = (Boolean false, refl, λ is. cc)
kept_other (Ok Null) p h = (Null, refl, λ is. cc)
kept_other (Ok (Int n)) p h = (Int n, refl, λ is. cc)
kept_other (Ok (Text t)) p h = (Text t, refl, λ is. cc)
kept_other (Err c) p h = absurd (not_ok (Err c) h.0 c h.1 refl)

module _ (db : Database) (users : UserNames) (d : TableOf) (a : Action) (reads : Bool) (others new : List Row) where
  abbrev Cause : SqlState → Type 0
  Cause = RefusesNewRows db users d a reads others new

  abbrev check : Row → Outcome
  check row = guard db users d a check_clause row

  abbrev sight : Row → Outcome
  sight row = guard db users d action.Select using_clause row

  abbrev admits : Bool → Row → Result (Unit {0}) SqlState
  admits reads' = is_admitted (with_select db users d reads' (guard db users d a check_clause))

  other_cause : (reads' : Bool) → reads' ≡ reads → (row : Row) → IsOther (with_select db users d reads' (guard db users d a check_clause) row) → TurnsAway db users d a reads row InsufficientPrivilege
  other_cause false is row h = not_admitted h
  other_cause true is row h = elim (both_other (check row) (sight row) h) [
    | inl first ↦ not_admitted first
    | inr second ↦ not_seen second.0 (sym is) second.1
  ]

  row_cause : (code : SqlState) (row : Row) → is_admitted (with_select db users d reads (guard db users d a check_clause)) row ≡ Err code → TurnsAway db users d a reads row code
  row_cause code row e = elim (admitted_err (with_select db users d reads (guard db users d a check_clause) row) code e) [
    | inl fails ↦ elim (with_select_err db users d code reads (guard db users d a check_clause) row fails) [
      | inl first ↦ check_fails code first
      | inr second ↦ select_guard_fails code second.0 second.1 second.2
    ]
    | inr other ↦ subst (λ c. TurnsAway db users d a reads row c) other.1 (other_cause reads refl row other.0)
  ]

  -- and a cause turns the row away
  not_true : (g : Guard) (row : Row) → IsOther (g row) → is_admitted g row ≡ Err InsufficientPrivilege
  not_true g row (v, is, other) = goes_on (g row) (λ x. require (when_true x true false) InsufficientPrivilege) v InsufficientPrivilege is (other_refused v other)

  first_other : (reads' : Bool) (row : Row) → IsOther (check row) → IsOther (with_select db users d reads' (guard db users d a check_clause) row)
  first_other false row h = h
  first_other true row h = kept_other (check row) (sight row) h

  second_other : (reads' : Bool) (row : Row) → reads' ≡ true → is_met (check row) ≡ true → IsOther (sight row) → IsOther (with_select db users d reads' (guard db users d a check_clause) row)
  second_other false row is met h = cc
  second_other true row is met h = subst (λ (o : Outcome). IsOther (o >>= λ v. when_true v (sight row) (Ok v))) (sym (met_is (check row) met)) h

  turned : (row : Row) (code : SqlState) → TurnsAway db users d a reads row code → is_admitted (with_select db users d reads (guard db users d a check_clause)) row ≡ Err code
  turned row code (check_fails c e) = stops (with_select db users d reads (guard db users d a check_clause) row) _ code (with_select_fails db users d code reads (guard db users d a check_clause) row e)
  turned row code (not_admitted h) = not_true (with_select db users d reads (guard db users d a check_clause)) row (first_other reads row h)
  turned row code (select_guard_fails c met is e) = stops (with_select db users d reads (guard db users d a check_clause) row) _ code (second_fails db users d code reads (guard db users d a check_clause) row is met e)
  turned row code (not_seen met is h) = not_true (with_select db users d reads (guard db users d a check_clause)) row (second_other reads row is met h)

  -- what each new row passed, where none is refused by the guards
  all_admitted_by : (units : List (Unit {0})) → each (is_admitted (with_select db users d reads (guard db users d a check_clause))) new ≡ Ok units → AllAdmitted db users d a reads new
  all_admitted_by units e row h =
      let g = with_select db users d reads (guard db users d a check_clause) in
      let at = each_to (is_admitted g) new units e row h in
      let passed = with_select_passes db users d reads (guard db users d a check_clause) row (admitted_one g row at.0 at.1) in
      record { by_command = passed.0; by_select = passed.1 }

  rows_cause : (code : SqlState) → checked_rows d.layout (with_select db users d reads (guard db users d a check_clause)) others new ≡ Err code → Cause code
  rows_cause code e = elim (bind_err (each (is_admitted (with_select db users d reads (guard db users d a check_clause))) new) _ code e) [
    | inl h ↦
        let admitting = is_admitted (with_select db users d reads (guard db users d a check_clause)) in
        let row = first_refused admitting (λ r. (c : SqlState) × TurnsAway db users d a reads r c) (λ r u ok away. not_ok (admitting r) u away.0 ok (turned r away.0 away.1)) new code
        (λ r among refused. (code, row_cause code r refused)) h in
        turned_away row.0 code row.1 (row_cause code row.0 row.2)
    | inr x ↦ elim (bind_err (require (list_all (keeps_not_null d.layout.columns) new) NotNullViolation) _ code x.2) [
      | inl h ↦ let no = require_err (list_all (keeps_not_null d.layout.columns) new) NotNullViolation code h in subst Cause no.1 (is_null (all_admitted_by x.0 x.1) no.0)
      | inr y ↦ elim (bind_err (require (list_all (fits_record d.layout) new) ProgramLimitExceeded) _ code y.2) [
        | inl h ↦ let no = require_err (list_all (fits_record d.layout) new) ProgramLimitExceeded code h in
            subst Cause no.1 (is_large (all_admitted_by x.0 x.1) (require_ok (list_all (keeps_not_null d.layout.columns) new) NotNullViolation y.0 y.1) no.0)
        | inr z ↦ let h = first_err (require (not (has_double_key d.layout.key (others ++ new))) UniqueViolation) (λ u. with_rows d.layout.key new others) code z.2 in
            let no = require_err (not (has_double_key d.layout.key (others ++ new))) UniqueViolation code h in
            subst Cause no.1 (is_double (all_admitted_by x.0 x.1) (require_ok (list_all (keeps_not_null d.layout.columns) new) NotNullViolation y.0 y.1)
            (require_ok (list_all (fits_record d.layout) new) ProgramLimitExceeded z.0 z.1) (bool_not (has_double_key d.layout.key (others ++ new)) no.0))
      ]
    ]
  ]

-- ---- INSERT

pub insert_cause : (db : Database) (users : UserNames) (s : Insert) (t : TableOf) (code : SqlState) → definition_named db s.table ≡ Some t → insert db users s ≡ Err code → (checked_insert db users s ≡ Err code) ⊎ InsertFails db users s t code
insert_cause db users s t code named e = elim (bind_err (checked_insert db users s) (inserted db users) code e) [
  | inl h ↦ inl h
  | inr later ↦ inr (of_rows later.0 later.1 later.2)
] where
  of_rows : (c : CheckedInsert) → checked_insert db users s ≡ Ok c → inserted db users c ≡ Err code → InsertFails db users s t code
  of_rows c is h =
      let facts = insert_checked db users s c is in
      let f = found_definition db s.table c.table facts.found in
      let g = new_guard db users c.table action.Insert false in
      let rows = first_err (rows_inserted g users c (rows_named db c.table.name)) (λ rows. counted tag.Insert (length c.rows) (with_rows_of c.table.name rows db)) code h in
      let given = each_bound (each (resolved [])) (inserted_row c.table.layout users c.columns) (row_given c.table users s)
      (λ terms bound b. given_by_names c.table users s c.columns terms bound facts.columns b) s.rows c.rows facts.bound in
      subst (λ x. InsertFails db users s x code) (same_definition db s.table t c.table named facts.found)
      (elim (bind_err (each (inserted_row c.table.layout users c.columns) c.rows) (λ new. checked_rows c.table.layout g (rows_named db c.table.name) new) code rows) [
        | inl bad ↦
            let value = value_on [] users [] in
            let row = first_refused (row_given c.table users s) (λ terms. (e : Term ColumnName) × Among e terms × IsFailure (value e))
            (λ terms new ok fails. not_given terms new ok fails) s.rows code
            (λ terms among refused. let term = first_failure value terms code (values_of terms refused) in (term.0, in_list_of (λ e. IsFailure (value e)) terms term.0 term.1, (code, term.2))) (sym given ∙ bad) in
            let term = first_failure value row.0 code (values_of row.0 row.2) in
            in_values row.0 term.0 row.1 term.1 term.2
        | inr x ↦ in_new_rows x.0 (sym given ∙ x.1)
            (subst (λ l. RefusesNewRows db users c.table action.Insert false l x.0 code) (rows_before db s.table c.table f)
            (rows_cause db users c.table action.Insert false (rows_named db c.table.name) x.0 code x.2))
      ])
    where
      values_of : (terms : List (Term ColumnName)) → row_given c.table users s terms ≡ Err code → each (value_on [] users []) terms ≡ Err code
      values_of terms refused =
          first_err (each (value_on [] users []) terms) (λ values. arranged c.table.layout c.columns values) code
          (ap (λ (r : Result (List ℕ) SqlState). r >>= λ cs. each (value_on [] users []) terms >>= λ values. Ok (arranged c.table.layout cs values)) (sym (insert_checked db users s c is).columns) ∙ refused)

      not_given : (terms : List (Term ColumnName)) (new : Row) → row_given c.table users s terms ≡ Ok new → (e : Term ColumnName) × Among e terms × IsFailure (value_on [] users [] e) → ⊥
      not_given terms new ok (e, among, fails) =
          let columns = bind_ok (target_columns c.table.layout s) (λ cs. each (value_on [] users []) terms >>= λ values. Ok (arranged c.table.layout cs values)) new ok in
          let values = bind_ok (each (value_on [] users []) terms) (λ values. Ok (arranged c.table.layout columns.0 values)) new columns.2 in
          let at = each_to (value_on [] users []) terms values.0 values.1 e among in
          not_ok (value_on [] users [] e) at.0 fails.0 at.1 fails.1

-- ---- UPDATE

pub update_cause : (db : Database) (users : UserNames) (s : Update) (t : TableOf) (code : SqlState) → definition_named db s.table ≡ Some t → update db users s ≡ Err code → (checked_update db users s ≡ Err code) ⊎ UpdateFails db users s t code
update_cause db users s t code named e = elim (bind_err (checked_update db users s) (updated db users) code e) [
  | inl h ↦ inl h
  | inr later ↦ let facts = update_checked db users s later.0 later.1 in
      inr (subst (λ x. UpdateFails db users s x code) (same_definition db s.table t later.0.table named facts.found) (of_rows later.0 facts later.2))
] where
  by_cause : (c : CheckedUpdate) → UpdateFacts db users s c → (row : Row) →
      RefusesRow (existing_guard db users c.table action.Update c.reads row) (condition_on_row users c.condition row) (assigned users c.columns c.values row) code → FailsOnUpdate db users s c.table row code
  by_cause c facts row (by_guard h) =
      in_row (subst (λ b. FailsOnRow db users c.table action.Update b s.condition row code) (update_as_written db users s c facts) (guard_cause db users c.table code action.Update c.reads s.condition row h))
  by_cause c facts row (by_condition met h) =
      in_row (subst (λ b. FailsOnRow db users c.table action.Update b s.condition row code) (update_as_written db users s c facts) (where_cause db users c.table code action.Update c.reads s.condition c.condition facts.condition row met h))
  by_cause c facts row (by_change met h) =
      let f = value_on (own_scope c.table) users (row ∷ []) in
      let made = by_names (own_scope c.table) users (row ∷ []) (new_values s) c.values facts.bound in
      let values = sym made ∙ first_err (each (bound_value users (row ∷ [])) c.values) (λ values. replaced c.columns values row) code h in
      let term = first_failure f (new_values s) code values in
      let a = first_of_map (λ (x : Assignment). x.value) (λ e. IsFailure (f e)) s.assignments term.0 term.1 in
      in_assignment a.0 (updated_is db users s c facts row ∙ met) a.1 (ap f a.2 ∙ term.2)

  -- a cause on a row refuses what is chosen of it
  no_cause : (c : CheckedUpdate) → UpdateFacts db users s c → (row : Row) (x : Chosen) →
      choose (existing_guard db users c.table action.Update c.reads) (condition_on_row users c.condition) (assigned users c.columns c.values) row ≡ Ok x → (k : SqlState) → FailsOnUpdate db users s c.table row k → ⊥
  no_cause c facts row x ok k (in_row h) =
      let becomes = assigned users c.columns c.values in
      not_ok (choose (existing_guard db users c.table action.Update c.reads) (condition_on_row users c.condition) becomes row) x k ok
      (cause_refuses db users c.table k action.Update c.reads s.condition c.condition facts.condition becomes row
      (subst (λ b. FailsOnRow db users c.table action.Update b s.condition row k) (sym (update_as_written db users s c facts)) h))
  no_cause c facts row x ok k (in_assignment a concerned first fails) =
      let g = existing_guard db users c.table action.Update c.reads in
      let becomes = assigned users c.columns c.values in
      let f = value_on (own_scope c.table) users (row ∷ []) in
      let chosen = chosen_as g (condition_on_row users c.condition) becomes row x ok in
      let new = ap (λ b. becoming b (becomes row)) (sym (updated_is db users s c facts row) ∙ concerned) in
      let made = bind_ok (becomes row) (λ r. Ok (Some r)) x.new (sym new ∙ chosen.new_is) in
      let values = bind_ok (each (bound_value users (row ∷ [])) c.values) (λ values. Ok (replaced c.columns values row)) made.0 made.1 in
      let named_values = by_names (own_scope c.table) users (row ∷ []) (new_values s) c.values facts.bound in
      let at = each_to f (new_values s) values.0 (sym named_values ∙ values.1) a.value
      (into_map (λ (b : Assignment). b.value) s.assignments a (in_list_of (λ b. IsFailure (f b.value)) s.assignments a first)) in
      not_ok (f a.value) at.0 k at.1 fails

  of_rows : (c : CheckedUpdate) → UpdateFacts db users s c → updated db users c ≡ Err code → UpdateFails db users s c.table code
  of_rows c facts h =
      let f = found_definition db s.table c.table facts.found in
      let g = existing_guard db users c.table action.Update c.reads in
      let admitting = new_guard db users c.table action.Update c.reads in
      let becomes = assigned users c.columns c.values in
      let rows = first_err (rows_updated g admitting users c (rows_named db c.table.name)) (λ changed. counted tag.Update changed.count (with_rows_of c.table.name changed.rows db)) code h in
      elim (bind_err (each (choose g (condition_on_row users c.condition) becomes) (rows_named db c.table.name)) _ code rows) [
        | inl bad ↦
            let at = choose g (condition_on_row users c.condition) becomes in
            let row = first_refused at (λ r. (k : SqlState) × FailsOnUpdate db users s c.table r k) (λ r x ok fails. no_cause c facts r x ok fails.0 fails.1) (rows_named db c.table.name) code
            (λ r among refused. (code, by_cause c facts r (choose_err g (condition_on_row users c.condition) becomes r code refused))) bad in
            on_row row.0 (subst (λ l. IsFirst (λ r. (k : SqlState) × FailsOnUpdate db users s c.table r k) row.0 l) (rows_before db s.table c.table f) row.1)
            (by_cause c facts row.0 (choose_err g (condition_on_row users c.condition) becomes row.0 code row.2))
        | inr x ↦ let y = splits_by_names db users s c facts f x.0 x.1 in
            let put = first_err (checked_rows c.table.layout admitting (other_rows x.0) (new_rows x.0)) (λ after. record { rows = after; count = length (new_rows x.0) }) code x.2 in
            in_replaced_rows (new_rows x.0) y.new
            (subst (λ l. RefusesNewRows db users c.table action.Update (has_any (columns_read_by_update s)) l (new_rows x.0) code) y.others
            (subst (λ b. RefusesNewRows db users c.table action.Update b (other_rows x.0) (new_rows x.0) code) (update_as_written db users s c facts)
            (rows_cause db users c.table action.Update c.reads (other_rows x.0) (new_rows x.0) code put)))
      ]
