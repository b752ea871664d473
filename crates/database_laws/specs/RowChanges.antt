-- Laws of the rows that INSERT, UPDATE and DELETE change.
use Rattle.std.specs.Prelude.{◌≡◌, ℕ, Bool, true, false, List, [], ◌∷◌, ◌++◌, map, filter, find, zip, take, length, slice_get, bytes_eq, unwrap_or, Option, Some, None, Result, Ok}
use Rattle.std.specs.Map.{lookup}
use Rattle.std.specs.List.Sorted.{IsPermutation}
use Rattle.sql_types.specs.Row.{Row, value_at}
use Rattle.sql_types.specs.declared.value.Value.{Value}
use Rattle.sql_types.specs.declared.value.Value.TheVariants.{Null}
use Rattle.sql_types.specs.declared.state.SqlState.{SqlState}
use Rattle.sql_types.specs.declared.answer.Answer.TheVariants as answer
use Rattle.sql_types.specs.declared.tag.Tag.TheVariants as tag
use Rattle.sql_ast.specs.declared.expression.ColumnName.{ColumnName}
use Rattle.sql_ast.specs.declared.privilege.Action.TheVariants as action
use Rattle.sql_ast.specs.declared.columns.Column.{Column}
use Rattle.sql_ast.specs.declared.statement.Assignment.{Assignment}
use Rattle.sql_ast.specs.declared.statement.Insert.{Insert}
use Rattle.sql_ast.specs.declared.statement.Update.{Update}
use Rattle.sql_ast.specs.declared.statement.Delete.{Delete}
use Rattle.sql_ast.specs.Layout.{Layout, all_differ, same_name}
use Rattle.sql_ast.specs.Term.{Term}
use Rattle.expressions.specs.Meaning.{UserNames}
use Rattle.expressions.specs.Stages.{◌>>=◌, each}
use Rattle.abstract_database.specs.Lists.{TheName, drop_where}
use Rattle.abstract_database.specs.Database.{TableOf, Database, definition_named, rows_named, without_rows}
use Rattle.abstract_database.specs.Expressions.{own_scope, value_on}
use Rattle.abstract_database.specs.Needs.{has_any}
use Rattle.abstract_database.specs.Changes.{arranged, replaced}
use Rattle.abstract_database.specs.Checks.{found_column, row_width, target_columns, set_names, new_values}
use Rattle.abstract_database.specs.Statements.{Effect, insert, update, delete}
use Rattle.database_laws.specs.Readings.{columns_read_by_update, columns_read_by_delete}
use Rattle.database_laws.specs.Visible.{is_concerned}

-- ---- one table

-- nothing differs but the rows of the table of this name
pub record ChangesRowsOf (name : TheName) (before after : Database) : Type 0 where
  pub definitions : without_rows after ≡ without_rows before
  pub others : (other : TheName) → bytes_eq other name ≡ false → rows_named after other ≡ rows_named before other

-- a statement that is not refused changes nothing but the rows of its table
abbrev pub ChangesItsTable : {S : Type 0} → (S → TheName) → (Database → UserNames → S → Result Effect SqlState) → Type 0
ChangesItsTable {S} table run = (db : Database) (users : UserNames) (s : S) (e : Effect) → run db users s ≡ Ok e → ChangesRowsOf (table s) db e.database

abbrev pub insert_changes_its_table : Type 0
insert_changes_its_table = ChangesItsTable (λ (s : Insert). s.table) insert

abbrev pub update_changes_its_table : Type 0
update_changes_its_table = ChangesItsTable (λ (s : Update). s.table) update

abbrev pub delete_changes_its_table : Type 0
delete_changes_its_table = ChangesItsTable (λ (s : Delete). s.table) delete

-- ---- the columns of a name

-- where the names of its columns differ, each column of a table is found by its name
abbrev pub columns_are_found : Type 0
columns_are_found = (layout : Layout) (index : ℕ) (c : Column) → all_differ same_name layout.columns ≡ true → slice_get layout.columns index ≡ Some c → found_column layout c.name ≡ Ok index

-- ---- INSERT

-- a row of VALUES, whose expressions name no column, under the columns that it is given to
abbrev pub row_given : TableOf → UserNames → Insert → List (Term ColumnName) → Result Row SqlState
row_given t users s terms = do
  columns ← target_columns t.layout s
  values ← each (value_on [] users []) terms
  Ok (arranged t.layout columns values)

-- the columns that values are given to, by their names: those of the column list, or without one as many from the left as a
-- row has values
abbrev pub names_given : TableOf → Insert → List TheName
names_given t s = unwrap_or s.columns (take (row_width s.rows) (map (λ x. x.name) t.layout.columns))

-- the expression of VALUES that is given to the column of a name, if there is one: in the place that the name has there
abbrev pub given_to : TableOf → Insert → TheName → List (Term ColumnName) → Option (Term ColumnName)
given_to t s name terms = lookup (bytes_eq name) (zip (names_given t s) terms)

-- a new row of INSERT, column by column: the value that is given, and null where none is
pub record HasGivenValues (t : TableOf) (users : UserNames) (s : Insert) (terms : List (Term ColumnName)) (new : Row) : Type 0 where
  pub width : length new ≡ length t.layout.columns
  pub given : (name : TheName) (index : ℕ) (term : Term ColumnName) → found_column t.layout name ≡ Ok index →
      given_to t s name terms ≡ Some term → value_on [] users [] term ≡ Ok (value_at new index)
  pub missing : (name : TheName) (index : ℕ) → found_column t.layout name ≡ Ok index →
      given_to t s name terms ≡ None → value_at new index ≡ Null

abbrev pub values_are_given : Type 0
values_are_given = (t : TableOf) (users : UserNames) (s : Insert) (terms : List (Term ColumnName)) (new : Row) →
    row_given t users s terms ≡ Ok new → HasGivenValues t users s terms new

-- the rows that were there and those of VALUES, each once; the answer counts the new ones
pub record AddsItsRows (db : Database) (users : UserNames) (s : Insert) (t : TableOf) (e : Effect) : Type 0 where
  pub new : List Row
  pub given : each (row_given t users s) s.rows ≡ Ok new
  pub rows : IsPermutation (rows_named db s.table ++ new) (rows_named e.database s.table)
  pub counted : e.answer ≡ answer.Done tag.Insert (Some (length new)) None

abbrev pub insert_adds_its_rows : Type 0
insert_adds_its_rows = (db : Database) (users : UserNames) (s : Insert) (e : Effect) (t : TableOf) →
    definition_named db s.table ≡ Some t → insert db users s ≡ Ok e → AddsItsRows db users s t e

-- ---- UPDATE

abbrev pub is_updated : Database → UserNames → TableOf → Update → Row → Bool
is_updated db users t s = is_concerned db users t action.Update (has_any (columns_read_by_update s)) s.condition

-- a row with the values of SET in their columns, each of which sees the row before
abbrev pub row_assigned : TableOf → UserNames → Update → Row → Result Row SqlState
row_assigned t users s row = do
  columns ← each (found_column t.layout) (set_names s)
  values ← each (value_on (own_scope t) users (row ∷ [])) (new_values s)
  Ok (replaced columns values row)

abbrev pub sets : TheName → Assignment → Bool
sets name a = bytes_eq name a.column

-- a new row of UPDATE, column by column: the value that SET assigns, and the old one where it assigns none
pub record HasAssignedValues (t : TableOf) (users : UserNames) (s : Update) (row new : Row) : Type 0 where
  pub assigned : (name : TheName) (index : ℕ) (old : Value) (a : Assignment) → found_column t.layout name ≡ Ok index → slice_get row index ≡ Some old →
      find (sets name) s.assignments ≡ Some a → value_on (own_scope t) users (row ∷ []) a.value ≡ Ok (value_at new index)
  pub others : (name : TheName) (index : ℕ) → found_column t.layout name ≡ Ok index →
      find (sets name) s.assignments ≡ None → value_at new index ≡ value_at row index

abbrev pub values_are_assigned : Type 0
values_are_assigned = (t : TableOf) (users : UserNames) (s : Update) (row new : Row) →
    row_assigned t users s row ≡ Ok new → HasAssignedValues t users s row new

-- each row that it concerns is replaced by the assigned one, and each other stays; the answer counts those
pub record ReplacesItsRows (db : Database) (users : UserNames) (s : Update) (t : TableOf) (e : Effect) : Type 0 where
  pub new : List Row
  pub assigned : each (row_assigned t users s) (filter (is_updated db users t s) (rows_named db s.table)) ≡ Ok new
  pub rows : IsPermutation (drop_where (is_updated db users t s) (rows_named db s.table) ++ new) (rows_named e.database s.table)
  pub counted : e.answer ≡ answer.Done tag.Update (Some (length (filter (is_updated db users t s) (rows_named db s.table)))) None

abbrev pub update_replaces_its_rows : Type 0
update_replaces_its_rows = (db : Database) (users : UserNames) (s : Update) (e : Effect) (t : TableOf) →
    definition_named db s.table ≡ Some t → update db users s ≡ Ok e → ReplacesItsRows db users s t e

-- ---- DELETE

abbrev pub is_deleted : Database → UserNames → TableOf → Delete → Row → Bool
is_deleted db users t s = is_concerned db users t action.Delete (has_any (columns_read_by_delete s)) s.condition

-- the rows that it concerns go, and the others stay in their order; the answer counts those
pub record RemovesItsRows (db : Database) (users : UserNames) (s : Delete) (t : TableOf) (e : Effect) : Type 0 where
  pub rows : rows_named e.database s.table ≡ drop_where (is_deleted db users t s) (rows_named db s.table)
  pub counted : e.answer ≡ answer.Done tag.Delete (Some (length (filter (is_deleted db users t s) (rows_named db s.table)))) None

abbrev pub delete_removes_its_rows : Type 0
delete_removes_its_rows = (db : Database) (users : UserNames) (s : Delete) (e : Effect) (t : TableOf) →
    definition_named db s.table ≡ Some t → delete db users s ≡ Ok e → RemovesItsRows db users s t e
