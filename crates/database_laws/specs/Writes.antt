-- Laws of statements that change rows: the privileges that they need, and the guards that rows pass.
use Rattle.std.specs.Prelude.{◌≡◌, ◌⊎◌, ℕ, Bool, true, false, List, Some, Ok}
use Rattle.sql_types.specs.Row.{Row}
use Rattle.sql_types.specs.declared.value.Value.TheVariants.{Bool as Boolean}
use Rattle.sql_ast.specs.declared.expression.ColumnName.{ColumnName}
use Rattle.sql_ast.specs.declared.privilege.Action.{Action}
use Rattle.sql_ast.specs.declared.privilege.Action.TheVariants as action
use Rattle.sql_ast.specs.declared.scope.ColumnIndex.{ColumnIndex}
use Rattle.sql_ast.specs.declared.statement.DatabaseStatement.{DatabaseStatement}
use Rattle.sql_ast.specs.declared.statement.DatabaseStatement.TheVariants as on_database
use Rattle.sql_ast.specs.declared.statement.RowStatement.{RowStatement}
use Rattle.sql_ast.specs.declared.statement.Insert.{Insert}
use Rattle.sql_ast.specs.declared.statement.Update.{Update}
use Rattle.sql_ast.specs.declared.statement.Delete.{Delete}
use Rattle.sql_ast.specs.Scope.{found_in}
use Rattle.expressions.specs.Meaning.{UserNames}
use Rattle.abstract_database.specs.Lists.{TheName, Among}
use Rattle.abstract_database.specs.Database.{TableOf, Database, definition_named, rows_named}
use Rattle.abstract_database.specs.Expressions.{own_scope}
use Rattle.abstract_database.specs.Privileges.{on_table, on_column, has_privilege}
use Rattle.abstract_database.specs.Guards.{guard, using_clause, check_clause, Guard}
use Rattle.abstract_database.specs.Needs.{Need, has_any}
use Rattle.abstract_database.specs.Checks.{has_needed, found_column, target_columns, set_names}
use Rattle.abstract_database.specs.Statements.{Effect, UserPair, as_seen, exec, Checked, checked, needs_of, insert, update, delete}
use Rattle.database_laws.specs.Readings.{columns_read_by_update, columns_read_by_delete}

-- ---- the privileges that are needed

-- each privilege that a statement needs is had
abbrev pub HasItsNeeds : Database → UserNames → Checked → Type 0
HasItsNeeds db users c = (n : Need) → Among n (needs_of c) → has_needed db users n ≡ true

-- which is so where its checks pass
abbrev pub needed_privileges_are_held : Type 0
needed_privileges_are_held = (db : Database) (users : UserNames) (s : DatabaseStatement) (c : Checked) → checked db users s ≡ Ok c → HasItsNeeds db users c

-- and the checks of a statement over rows that is not refused passed
abbrev pub statements_have_their_needs : Type 0
statements_have_their_needs = (db : Database) (pair : UserPair) (x : RowStatement) (e : Effect) → exec db pair (on_database.OverRows x) ≡ Ok e →
    (c : Checked) × (checked db (as_seen pair db) (on_database.OverRows x) ≡ Ok c) × HasItsNeeds db (as_seen pair db) c

-- an INSERT that is not refused has INSERT on each column that it gives a value to
abbrev pub inserting_needs_insert : Type 0
inserting_needs_insert = (db : Database) (users : UserNames) (s : Insert) (e : Effect) (t : TableOf) → definition_named db s.table ≡ Some t → insert db users s ≡ Ok e →
    (columns : List ℕ) (index : ℕ) → target_columns t.layout s ≡ Ok columns → Among index columns → has_privilege db users.current s.table (on_column action.Insert index) ≡ true

-- an UPDATE has UPDATE on each column that it sets
abbrev pub setting_needs_update : Type 0
setting_needs_update = (db : Database) (users : UserNames) (s : Update) (e : Effect) (t : TableOf) → definition_named db s.table ≡ Some t → update db users s ≡ Ok e →
    (name : TheName) (index : ℕ) → Among name (set_names s) → found_column t.layout name ≡ Ok index → has_privilege db users.current s.table (on_column action.Update index) ≡ true

-- and SELECT on each column that a new value or WHERE names
abbrev pub updating_needs_select : Type 0
updating_needs_select = (db : Database) (users : UserNames) (s : Update) (e : Effect) (t : TableOf) → definition_named db s.table ≡ Some t → update db users s ≡ Ok e →
    (c : ColumnName) (index : ColumnIndex) → Among c (columns_read_by_update s) → found_in (own_scope t) c ≡ Ok index → has_privilege db users.current s.table (on_column action.Select index.column) ≡ true

-- a DELETE has DELETE on the table
abbrev pub deleting_needs_delete : Type 0
deleting_needs_delete = (db : Database) (users : UserNames) (s : Delete) (e : Effect) → delete db users s ≡ Ok e → has_privilege db users.current s.table (on_table action.Delete) ≡ true

-- and SELECT on each column that WHERE names
abbrev pub deleting_needs_select : Type 0
deleting_needs_select = (db : Database) (users : UserNames) (s : Delete) (e : Effect) (t : TableOf) → definition_named db s.table ≡ Some t → delete db users s ≡ Ok e →
    (c : ColumnName) (index : ColumnIndex) → Among c (columns_read_by_delete s) → found_in (own_scope t) c ≡ Ok index → has_privilege db users.current s.table (on_column action.Select index.column) ≡ true

-- ---- guards

abbrev pub Passes : Guard → Row → Type 0
Passes guard row = guard row ≡ Ok (Boolean true)

-- an existing row passed the guard of the command, and where the statement reads that of SELECT too
pub record WasSeen (db : Database) (users : UserNames) (t : TableOf) (a : Action) (reads : Bool) (row : Row) : Type 0 where
  pub by_command : Passes (guard db users t a using_clause) row
  pub by_select : reads ≡ true → Passes (guard db users t action.Select using_clause) row

-- a new row passed the check of the command, and where the statement reads the guard of SELECT too
pub record WasAdmitted (db : Database) (users : UserNames) (t : TableOf) (a : Action) (reads : Bool) (row : Row) : Type 0 where
  pub by_command : Passes (guard db users t a check_clause) row
  pub by_select : reads ≡ true → Passes (guard db users t action.Select using_clause) row

-- INSERT leaves the rows that were there, and rows that passed its check
abbrev pub inserted_rows_passed : Type 0
inserted_rows_passed = (db : Database) (users : UserNames) (s : Insert) (e : Effect) (t : TableOf) → definition_named db s.table ≡ Some t → insert db users s ≡ Ok e →
    (row : Row) → Among row (rows_named e.database s.table) → Among row (rows_named db s.table) ⊎ WasAdmitted db users t action.Insert false row

abbrev pub inserting_takes_nothing : Type 0
inserting_takes_nothing = (db : Database) (users : UserNames) (s : Insert) (e : Effect) → insert db users s ≡ Ok e →
    (row : Row) → Among row (rows_named db s.table) → Among row (rows_named e.database s.table)

-- UPDATE leaves rows that were there, and in place of rows that were seen rows that were admitted
abbrev pub updated_rows_passed : Type 0
updated_rows_passed = (db : Database) (users : UserNames) (s : Update) (e : Effect) (t : TableOf) → definition_named db s.table ≡ Some t → update db users s ≡ Ok e →
    (row : Row) → Among row (rows_named e.database s.table) →
    Among row (rows_named db s.table)
    ⊎ ((old : Row) × Among old (rows_named db s.table) × WasSeen db users t action.Update (has_any (columns_read_by_update s)) old × WasAdmitted db users t action.Update (has_any (columns_read_by_update s)) row)

-- a row that it takes away was seen
abbrev pub updating_takes_what_was_seen : Type 0
updating_takes_what_was_seen = (db : Database) (users : UserNames) (s : Update) (e : Effect) (t : TableOf) → definition_named db s.table ≡ Some t → update db users s ≡ Ok e →
    (row : Row) → Among row (rows_named db s.table) → Among row (rows_named e.database s.table) ⊎ WasSeen db users t action.Update (has_any (columns_read_by_update s)) row

-- DELETE adds nothing
abbrev pub deleting_adds_nothing : Type 0
deleting_adds_nothing = (db : Database) (users : UserNames) (s : Delete) (e : Effect) → delete db users s ≡ Ok e →
    (row : Row) → Among row (rows_named e.database s.table) → Among row (rows_named db s.table)

-- and a row that it takes away was seen
abbrev pub deleting_takes_what_was_seen : Type 0
deleting_takes_what_was_seen = (db : Database) (users : UserNames) (s : Delete) (e : Effect) (t : TableOf) → definition_named db s.table ≡ Some t → delete db users s ≡ Ok e →
    (row : Row) → Among row (rows_named db s.table) → Among row (rows_named e.database s.table) ⊎ WasSeen db users t action.Delete (has_any (columns_read_by_delete s)) row
