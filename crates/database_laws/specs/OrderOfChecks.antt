-- Laws of the order in which a statement is checked: what it names must be there, then names and types are right, then come
-- privileges and limits.
use Rattle.std.specs.Prelude.{◌≡◌, ◌⊎◌, true, false, List, [], ◌∷◌, ◌++◌, map, take, unwrap_or, Some, None, Ok, Err}
use Rattle.std.specs.List.{list_all}
use Rattle.sql_types.specs.declared.state.SqlState.{SqlState}
use Rattle.sql_types.specs.declared.state.SqlState.TheVariants.{UndefinedTable, UndefinedObject, DuplicateTable, InsufficientPrivilege, ProgramLimitExceeded}
use Rattle.sql_ast.specs.declared.columns.ColumnType.TheVariants as type
use Rattle.sql_ast.specs.declared.expression.ColumnName.{ColumnName}
use Rattle.sql_ast.specs.declared.policy.PolicyClause.{PolicyClause}
use Rattle.sql_ast.specs.declared.statement.DatabaseStatement.{DatabaseStatement}
use Rattle.sql_ast.specs.declared.statement.DatabaseStatement.TheVariants as on_database
use Rattle.sql_ast.specs.declared.statement.DefiningStatement.{DefiningStatement}
use Rattle.sql_ast.specs.declared.statement.DefiningStatement.TheVariants as defining
use Rattle.sql_ast.specs.declared.statement.RowStatement.{RowStatement}
use Rattle.sql_ast.specs.declared.statement.RowStatement.TheVariants as over_rows
use Rattle.sql_ast.specs.declared.statement.TableElement.{TableElement}
use Rattle.sql_ast.specs.declared.statement.CreateTable.{CreateTable}
use Rattle.sql_ast.specs.declared.statement.CreatePolicy.{CreatePolicy}
use Rattle.sql_ast.specs.declared.statement.Update.{Update}
use Rattle.sql_ast.specs.declared.statement.Delete.{Delete}
use Rattle.sql_ast.specs.declared.statement.Select.{Select}
use Rattle.sql_ast.specs.Term.{Term}
use Rattle.expressions.specs.Meaning.{UserNames}
use Rattle.expressions.specs.Stages.{each}
use Rattle.expressions.specs.Types.{TypedTerm, names_then_types}
use Rattle.expressions.specs.Parts.{is_expected}
use Rattle.abstract_database.specs.Lists.{TheName, Among, has_double}
use Rattle.abstract_database.specs.Database.{TableOf, Table, Database, has_role, table_named, definition_named}
use Rattle.abstract_database.specs.Expressions.{own_scope}
use Rattle.abstract_database.specs.Queries.{tables_in, scope_of, Condition, conditions_of}
use Rattle.abstract_database.specs.Definitions.{definitions_of, key_names}
use Rattle.abstract_database.specs.Checks.{find_definition, grantee_roles, is_column_of}
use Rattle.abstract_database.specs.Statements.{Effect, UserPair, create_table, create_policy, update, delete, select, exec, checked_over_rows}
use Rattle.sql_ast.specs.Scope.{Table as ScopeTable}

-- ---- what must be there

abbrev pub tables_of_rows : RowStatement → List TheName
tables_of_rows (over_rows.Insert s) = s.table ∷ []
tables_of_rows (over_rows.Update s) = s.table ∷ []
tables_of_rows (over_rows.Delete s) = s.table ∷ []
tables_of_rows (over_rows.Select s) = map (λ r. r.table) (tables_in s.source)

-- the tables that a defining statement takes to be there: not one that it makes
abbrev pub tables_defined : DefiningStatement → List TheName
tables_defined (defining.CreateRole s) = []
tables_defined (defining.DropRole s) = []
tables_defined (defining.GrantRole s) = []
tables_defined (defining.RevokeRole s) = []
tables_defined (defining.CreateTable s) = []
tables_defined (defining.DropTable s) = s.table ∷ []
tables_defined (defining.AlterTable s) = s.table ∷ []
tables_defined (defining.CreatePolicy s) = s.table ∷ []
tables_defined (defining.DropPolicy s) = s.table ∷ []
tables_defined (defining.Grant s) = s.table ∷ []
tables_defined (defining.Revoke s) = s.table ∷ []

abbrev pub tables_named : DatabaseStatement → List TheName
tables_named (on_database.Defining x) = tables_defined x
tables_named (on_database.OverRows x) = tables_of_rows x

-- and the roles
abbrev pub roles_named : DefiningStatement → List TheName
roles_named (defining.CreateRole s) = []
roles_named (defining.DropRole s) = s.role ∷ []
roles_named (defining.GrantRole s) = s.roles ++ s.members
roles_named (defining.RevokeRole s) = s.roles ++ s.members
roles_named (defining.CreateTable s) = []
roles_named (defining.DropTable s) = []
roles_named (defining.AlterTable s) = []
roles_named (defining.CreatePolicy s) = grantee_roles (unwrap_or s.grantees [])
roles_named (defining.DropPolicy s) = []
roles_named (defining.Grant s) = grantee_roles s.grantees
roles_named (defining.Revoke s) = grantee_roles s.grantees

-- a table that is missing is told first, whatever else is wrong with the statement, and whoever issues it
abbrev pub missing_tables_are_told_first : Type 0
missing_tables_are_told_first = (db : Database) (pair : UserPair) (x : DatabaseStatement) (table : TheName) → Among table (tables_named x) → definition_named db table ≡ None →
    exec db pair x ≡ Err UndefinedTable

-- and then a role that is missing
abbrev pub missing_roles_are_told_next : Type 0
missing_roles_are_told_next = (db : Database) (pair : UserPair) (x : DefiningStatement) (role : TheName) →
    ((table : TheName) → Among table (tables_defined x) → definition_named db table ≡ None → ⊥) → Among role (roles_named x) → has_role db role ≡ false →
    exec db pair (on_database.Defining x) ≡ Err UndefinedObject

-- ---- names and types, before privileges

-- what is told one user for names and types is told to each: only then is asked who it is
abbrev pub names_and_types_are_told_to_all : Type 0
names_and_types_are_told_to_all = (db : Database) (users others : UserNames) (x : RowStatement) (code : SqlState) → checked_over_rows db users x ≡ Err code →
    (code ≡ InsufficientPrivilege → ⊥) → (code ≡ ProgramLimitExceeded → ⊥) → checked_over_rows db others x ≡ Err code

-- ---- a new table

-- a name that is taken is told first
abbrev pub taken_names_are_told_first : Type 0
taken_names_are_told_first = (db : Database) (users : UserNames) (s : CreateTable) (t : Table) → table_named db s.table ≡ Some t → create_table db users s ≡ Err DuplicateTable

-- the columns of a new table stand once, and so do those of its key, which are among them
pub record HasItsNames (elements : List TableElement) : Type 0 where
  pub columns_once : has_double (map (λ d. d.column) (definitions_of elements)) ≡ false
  pub key_once : has_double (key_names elements) ≡ false
  pub key_found : list_all (is_column_of (definitions_of elements)) (key_names elements) ≡ true

-- and a limit last
abbrev pub limits_are_told_last : Type 0
limits_are_told_last = (db : Database) (users : UserNames) (s : CreateTable) → create_table db users s ≡ Err ProgramLimitExceeded → (table_named db s.table ≡ None) × HasItsNames s.elements

-- ---- conditions

-- an expression over these tables has a type that may stand where a BOOLEAN is asked for
abbrev pub IsBoolean : List ScopeTable → Term ColumnName → Type 0
IsBoolean scope term = (u : TypedTerm) × (names_then_types scope term ≡ Ok u) × (is_expected (Some type.Boolean) u.value_type ≡ true)

abbrev pub updates_ask_for_booleans : Type 0
updates_ask_for_booleans = (db : Database) (users : UserNames) (s : Update) (e : Effect) (t : TableOf) (term : Term ColumnName) → definition_named db s.table ≡ Some t → update db users s ≡ Ok e →
    s.condition ≡ Some term → IsBoolean (own_scope t) term

abbrev pub deletes_ask_for_booleans : Type 0
deletes_ask_for_booleans = (db : Database) (users : UserNames) (s : Delete) (e : Effect) (t : TableOf) (term : Term ColumnName) → definition_named db s.table ≡ Some t → delete db users s ≡ Ok e →
    s.condition ≡ Some term → IsBoolean (own_scope t) term

-- ON and WHERE
abbrev pub selects_ask_for_booleans : Type 0
selects_ask_for_booleans = (db : Database) (users : UserNames) (s : Select) (e : Effect) (tables : List TableOf) (on : Condition) → each (λ r. find_definition db r.table) (tables_in s.source) ≡ Ok tables →
    select db users s ≡ Ok e → Among on (conditions_of s.source) → IsBoolean (take on.tables (scope_of (tables_in s.source) tables)) on.term

-- USING and WITH CHECK
abbrev pub policies_ask_for_booleans : Type 0
policies_ask_for_booleans = (db : Database) (users : UserNames) (s : CreatePolicy) (e : Effect) (t : TableOf) (c : PolicyClause) → definition_named db s.table ≡ Some t → create_policy db users s ≡ Ok e →
    (s.using ≡ Some c) ⊎ (s.check ≡ Some c) → IsBoolean (own_scope t) c.expression
