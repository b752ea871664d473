-- Laws of refusals: SELECT, INSERT, UPDATE and DELETE that pass their checks are refused only for a cause that rows give, and
-- of several causes for the first: rows in the order of their keys, the stages of each row in turn, expressions from the left.
use Rattle.std.specs.Prelude.{◌≡◌, ◌⊎◌, ◌++◌, Bool, true, false, List, [], ◌∷◌, map, filter, take, length, pos, Option, Some, None, Ok, Err}
use Rattle.std.specs.List.{list_all}
use Rattle.sql_types.specs.Row.{Row}
use Rattle.sql_types.specs.declared.value.Value.{Value}
use Rattle.sql_types.specs.declared.value.Value.TheVariants.{Bool as Boolean}
use Rattle.sql_types.specs.declared.state.SqlState.{SqlState}
use Rattle.sql_types.specs.declared.state.SqlState.TheVariants.{InsufficientPrivilege, NotNullViolation, ProgramLimitExceeded, UniqueViolation, NumericValueOutOfRange}
use Rattle.sql_ast.specs.Rows.{fits_record}
use Rattle.sql_ast.specs.Scope.{Table as ScopeTable}
use Rattle.sql_ast.specs.Term.{Term}
use Rattle.sql_ast.specs.declared.expression.ColumnName.{ColumnName}
use Rattle.sql_ast.specs.declared.privilege.Action.{Action}
use Rattle.sql_ast.specs.declared.privilege.Action.TheVariants as action
use Rattle.sql_ast.specs.declared.statement.Assignment.{Assignment}
use Rattle.sql_ast.specs.declared.statement.Insert.{Insert}
use Rattle.sql_ast.specs.declared.statement.Update.{Update}
use Rattle.sql_ast.specs.declared.statement.Delete.{Delete}
use Rattle.sql_ast.specs.declared.statement.Select.{Select}
use Rattle.sql_ast.specs.declared.statement.SelectList.TheVariants as list
use Rattle.sql_ast.specs.declared.statement.SortKey.{SortKey}
use Rattle.expressions.specs.Meaning.{UserNames}
use Rattle.expressions.specs.Outcome.{Outcome}
use Rattle.expressions.specs.Operators.{is_bigint}
use Rattle.expressions.specs.Stages.{each}
use Rattle.abstract_database.specs.Lists.{Among, drop_where}
use Rattle.abstract_database.specs.Database.{TableOf, Database, definition_named, rows_named}
use Rattle.abstract_database.specs.Expressions.{own_scope, value_on, all_of}
use Rattle.abstract_database.specs.Guards.{guard, using_clause, check_clause}
use Rattle.abstract_database.specs.Needs.{has_any}
use Rattle.abstract_database.specs.Queries.{tables_in, scope_of, Condition, conditions_of, keys_of, expressions_of, Combination, product}
use Rattle.abstract_database.specs.Changes.{keeps_not_null, has_double_key}
use Rattle.abstract_database.specs.Checks.{find_definition, checked_insert, checked_update, checked_delete, checked_select}
use Rattle.abstract_database.specs.Statements.{insert, update, delete, select}
use Rattle.database_laws.specs.Readings.{columns_read_by_update, columns_read_by_delete}
use Rattle.database_laws.specs.Visible.{is_met, visible_rows, is_concerned}
use Rattle.database_laws.specs.Selections.{chosen, shown}
use Rattle.database_laws.specs.RowChanges.{row_given, is_updated, row_assigned}
use Rattle.database_laws.specs.Writes.{WasAdmitted}

-- x is the first of the elements of which this holds
abbrev pub IsFirst : {X : Type 0} → (X → Type 0) → X → List X → Type 0
IsFirst Holds x [] = ⊥
IsFirst Holds x (y ∷ ys) = ((y ≡ x) × Holds x) ⊎ ((Holds y → ⊥) × IsFirst Holds x ys)

-- an outcome is a failure
abbrev pub IsFailure : Outcome → Type 0
IsFailure o = (code : SqlState) × (o ≡ Err code)

-- an outcome is a value other than true
abbrev pub IsOther : Outcome → Type 0
IsOther o = (v : Value) × (o ≡ Ok v) × (v ≡ Boolean true → ⊥)

-- ---- rows that UPDATE and DELETE read

-- what fails on a row: the guard of the command; where that lets it pass and the statement reads, the guard of SELECT; where
-- both let it pass, WHERE
pub data FailsOnRow (db : Database) (users : UserNames) (t : TableOf) (a : Action) (reads : Bool) (condition : Option (Term ColumnName)) (row : Row) (code : SqlState) : Type 0 where
  in_guard : guard db users t a using_clause row ≡ Err code → FailsOnRow db users t a reads condition row code
  in_select_guard : is_met (guard db users t a using_clause row) ≡ true → reads ≡ true → guard db users t action.Select using_clause row ≡ Err code → FailsOnRow db users t a reads condition row code
  in_where : is_concerned db users t a reads None row ≡ true → (term : Term ColumnName) → condition ≡ Some term → value_on (own_scope t) users (row ∷ []) term ≡ Err code → FailsOnRow db users t a reads condition row code

-- a DELETE is refused by its checks, or by what fails on the first row of its table on which something does
abbrev pub delete_fails_for_cause : Type 0
delete_fails_for_cause = (db : Database) (users : UserNames) (s : Delete) (t : TableOf) (code : SqlState) → definition_named db s.table ≡ Some t → delete db users s ≡ Err code →
    (checked_delete db users s ≡ Err code)
    ⊎ ((row : Row) × IsFirst (λ r. (c : SqlState) × FailsOnRow db users t action.Delete (has_any (columns_read_by_delete s)) s.condition r c) row (rows_named db s.table)
    × FailsOnRow db users t action.Delete (has_any (columns_read_by_delete s)) s.condition row code)

-- ---- new rows

abbrev pub AllAdmitted : Database → UserNames → TableOf → Action → Bool → List Row → Type 0
AllAdmitted db users t a reads new = (row : Row) → Among row new → WasAdmitted db users t a reads row

-- what turns a new row away: a check that fails or does not admit it; and where the statement reads, of a row that the check
-- admits, the guard of SELECT
pub data TurnsAway (db : Database) (users : UserNames) (t : TableOf) (a : Action) (reads : Bool) (row : Row) : SqlState → Type 0 where
  check_fails : (code : SqlState) → guard db users t a check_clause row ≡ Err code → TurnsAway db users t a reads row code
  not_admitted : IsOther (guard db users t a check_clause row) → TurnsAway db users t a reads row InsufficientPrivilege
  select_guard_fails : (code : SqlState) → is_met (guard db users t a check_clause row) ≡ true → reads ≡ true → guard db users t action.Select using_clause row ≡ Err code → TurnsAway db users t a reads row code
  not_seen : is_met (guard db users t a check_clause row) ≡ true → reads ≡ true → IsOther (guard db users t action.Select using_clause row) → TurnsAway db users t a reads row InsufficientPrivilege

-- what refuses the new rows of INSERT and UPDATE beside these others: what turns the first of them away that is not admitted; where
-- all are admitted a null, then a size, and then a key that stands twice: so no row that is not admitted tells of others' keys
pub data RefusesNewRows (db : Database) (users : UserNames) (t : TableOf) (a : Action) (reads : Bool) (others new : List Row) : SqlState → Type 0 where
  turned_away : (row : Row) (code : SqlState) → IsFirst (λ r. (c : SqlState) × TurnsAway db users t a reads r c) row new → TurnsAway db users t a reads row code → RefusesNewRows db users t a reads others new code
  is_null : AllAdmitted db users t a reads new → list_all (keeps_not_null t.layout.columns) new ≡ false → RefusesNewRows db users t a reads others new NotNullViolation
  is_large : AllAdmitted db users t a reads new → list_all (keeps_not_null t.layout.columns) new ≡ true → list_all (fits_record t.layout) new ≡ false → RefusesNewRows db users t a reads others new ProgramLimitExceeded
  is_double : AllAdmitted db users t a reads new → list_all (keeps_not_null t.layout.columns) new ≡ true → list_all (fits_record t.layout) new ≡ true → has_double_key t.layout.key (others ++ new) ≡ true → RefusesNewRows db users t a reads others new UniqueViolation

-- the first value of VALUES that fails, from the left of the first row in which one does; or new rows that are refused
pub data InsertFails (db : Database) (users : UserNames) (s : Insert) (t : TableOf) (code : SqlState) : Type 0 where
  in_values : (terms : List (Term ColumnName)) (term : Term ColumnName) → IsFirst (λ row. (e : Term ColumnName) × Among e row × IsFailure (value_on [] users [] e)) terms s.rows →
      IsFirst (λ e. IsFailure (value_on [] users [] e)) term terms → value_on [] users [] term ≡ Err code → InsertFails db users s t code
  in_new_rows : (new : List Row) → each (row_given t users s) s.rows ≡ Ok new → RefusesNewRows db users t action.Insert false (rows_named db s.table) new code → InsertFails db users s t code

abbrev pub insert_fails_for_cause : Type 0
insert_fails_for_cause = (db : Database) (users : UserNames) (s : Insert) (t : TableOf) (code : SqlState) → definition_named db s.table ≡ Some t → insert db users s ≡ Err code →
    (checked_insert db users s ≡ Err code) ⊎ InsertFails db users s t code

-- what fails on a row of UPDATE: a guard or WHERE; and where the row is concerned, the first right side of SET that fails, from
-- the left
pub data FailsOnUpdate (db : Database) (users : UserNames) (s : Update) (t : TableOf) (row : Row) (code : SqlState) : Type 0 where
  in_row : FailsOnRow db users t action.Update (has_any (columns_read_by_update s)) s.condition row code → FailsOnUpdate db users s t row code
  in_assignment : (a : Assignment) → is_updated db users t s row ≡ true → IsFirst (λ b. IsFailure (value_on (own_scope t) users (row ∷ []) b.value)) a s.assignments →
      value_on (own_scope t) users (row ∷ []) a.value ≡ Err code → FailsOnUpdate db users s t row code

-- what fails on the first row on which something does, or new rows that are refused
pub data UpdateFails (db : Database) (users : UserNames) (s : Update) (t : TableOf) (code : SqlState) : Type 0 where
  on_row : (row : Row) → IsFirst (λ r. (c : SqlState) × FailsOnUpdate db users s t r c) row (rows_named db s.table) → FailsOnUpdate db users s t row code → UpdateFails db users s t code
  in_replaced_rows : (new : List Row) → each (row_assigned t users s) (filter (is_updated db users t s) (rows_named db s.table)) ≡ Ok new →
      RefusesNewRows db users t action.Update (has_any (columns_read_by_update s)) (drop_where (is_updated db users t s) (rows_named db s.table)) new code → UpdateFails db users s t code

abbrev pub update_fails_for_cause : Type 0
update_fails_for_cause = (db : Database) (users : UserNames) (s : Update) (t : TableOf) (code : SqlState) → definition_named db s.table ≡ Some t → update db users s ≡ Err code →
    (checked_update db users s ≡ Err code) ⊎ UpdateFails db users s t code

-- ---- SELECT

-- the guard of a table fails on a row
abbrev pub FailsInGuard : Database → UserNames → TableOf → Row → Type 0
FailsInGuard db users t row = IsFailure (guard db users t action.Select using_clause row)

-- ON and WHERE on a combination, from the left
abbrev pub condition_outcome : List ScopeTable → UserNames → Select → Combination → Outcome
condition_outcome scope users s c = all_of (map (λ on. value_on (take on.tables scope) users c on.term) (conditions_of s.source))

-- no guard fails on a row of its table, and of these tables' visible rows on no combination ON and WHERE
pub record ChoosesRows (db : Database) (users : UserNames) (s : Select) (tables : List TableOf) : Type 0 where
  pub guards : (t : TableOf) → Among t tables → (row : Row) → Among row (rows_named db t.name) → FailsInGuard db users t row → ⊥
  pub conditions : (c : Combination) → Among c (product (map (visible_rows db users) tables)) → IsFailure (condition_outcome (scope_of (tables_in s.source) tables) users s c) → ⊥

abbrev pub FailsInKey : List ScopeTable → UserNames → Select → Combination → Type 0
FailsInKey scope users s c = (key : SortKey) × Among key (keys_of s.source) × IsFailure (value_on scope users c key.value)

abbrev pub FailsInList : List ScopeTable → UserNames → Select → Combination → Type 0
FailsInList scope users s c = (term : Term ColumnName) × Among term (expressions_of s.list) × IsFailure (value_on scope users c term)

-- the first failure of the first stage with one: the guards, table by table and row by row; ON and WHERE on the combinations of
-- visible rows; the sort keys on the chosen ones; the list on those that are shown, in their order; or a count that is no BIGINT
pub data SelectFails (db : Database) (users : UserNames) (s : Select) (tables : List TableOf) : SqlState → Type 0 where
  in_table_guard : (t : TableOf) (row : Row) (code : SqlState) → IsFirst (λ u. (r : Row) × Among r (rows_named db u.name) × FailsInGuard db users u r) t tables →
      IsFirst (FailsInGuard db users t) row (rows_named db t.name) → guard db users t action.Select using_clause row ≡ Err code → SelectFails db users s tables code
  in_condition : (c : Combination) (on : Condition) (code : SqlState) → ((t : TableOf) → Among t tables → (row : Row) → Among row (rows_named db t.name) → FailsInGuard db users t row → ⊥) →
      IsFirst (λ x. IsFailure (condition_outcome (scope_of (tables_in s.source) tables) users s x)) c (product (map (visible_rows db users) tables)) →
      IsFirst (λ o. IsFailure (value_on (take o.tables (scope_of (tables_in s.source) tables)) users c o.term)) on (conditions_of s.source) →
      value_on (take on.tables (scope_of (tables_in s.source) tables)) users c on.term ≡ Err code → SelectFails db users s tables code
  in_key : (c : Combination) (key : SortKey) (code : SqlState) → ChoosesRows db users s tables → IsFirst (FailsInKey (scope_of (tables_in s.source) tables) users s) c (chosen db users s tables) →
      IsFirst (λ k. IsFailure (value_on (scope_of (tables_in s.source) tables) users c k.value)) key (keys_of s.source) →
      value_on (scope_of (tables_in s.source) tables) users c key.value ≡ Err code → SelectFails db users s tables code
  in_list : (c : Combination) (term : Term ColumnName) (code : SqlState) → ChoosesRows db users s tables → ((x : Combination) → Among x (chosen db users s tables) → FailsInKey (scope_of (tables_in s.source) tables) users s x → ⊥) →
      IsFirst (FailsInList (scope_of (tables_in s.source) tables) users s) c (shown db users s tables) →
      IsFirst (λ e. IsFailure (value_on (scope_of (tables_in s.source) tables) users c e)) term (expressions_of s.list) →
      value_on (scope_of (tables_in s.source) tables) users c term ≡ Err code → SelectFails db users s tables code
  in_count : s.list ≡ list.Count → is_bigint (pos (length (chosen db users s tables))) ≡ false → SelectFails db users s tables NumericValueOutOfRange

abbrev pub select_fails_for_cause : Type 0
select_fails_for_cause = (db : Database) (users : UserNames) (s : Select) (tables : List TableOf) (code : SqlState) → each (λ r. find_definition db r.table) (tables_in s.source) ≡ Ok tables → select db users s ≡ Err code →
    (checked_select db users s ≡ Err code) ⊎ SelectFails db users s tables code
