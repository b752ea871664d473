-- What each command is checked for before a row is read, in the order of the checks: names, types, privileges, what roles
-- and privileges depend on, limits.
use Rattle.std.specs.Prelude.{ℕ, ◌==◌, nat_le, nat_lt, Bool, true, false, not, ◌&&◌, ◌||◌, List, [], ◌∷◌, ◌++◌, map, flat_map, length, position, is_none, bytes_eq, unwrap_or, option_to_list, Option, Some, None, Result, Ok}
use Rattle.std.specs.List.{list_any, list_all, range_with_len}
use Rattle.sql_types.specs.declared.state.SqlState.{SqlState}
use Rattle.sql_types.specs.declared.state.SqlState.TheVariants.{SyntaxError, UndefinedTable, UndefinedObject, DuplicateAlias, DuplicateTable, DuplicateObject, DuplicateColumn, UndefinedColumn, InsufficientPrivilege, InvalidGrantOperation, DependentObjects, ProgramLimitExceeded}
use Rattle.sql_ast.specs.declared.columns.ColumnType.TheVariants as type
use Rattle.sql_ast.specs.declared.expression.ColumnName.{ColumnName}
use Rattle.sql_ast.specs.declared.privilege.Grantee.{Grantee}
use Rattle.sql_ast.specs.declared.privilege.Grantee.TheVariants as grantee
use Rattle.sql_ast.specs.declared.policy.PolicyClause.{PolicyClause}
use Rattle.sql_ast.specs.declared.policy.PolicyRoles.{PolicyRoles}
use Rattle.sql_ast.specs.declared.policy.PolicyRoles.TheVariants as roles
use Rattle.sql_ast.specs.declared.statement.CreateRole.{CreateRole}
use Rattle.sql_ast.specs.declared.statement.DropRole.{DropRole}
use Rattle.sql_ast.specs.declared.statement.GrantRole.{GrantRole}
use Rattle.sql_ast.specs.declared.statement.RevokeRole.{RevokeRole}
use Rattle.sql_ast.specs.declared.statement.CreateTable.{CreateTable}
use Rattle.sql_ast.specs.declared.statement.DropTable.{DropTable}
use Rattle.sql_ast.specs.declared.statement.AlterTable.{AlterTable}
use Rattle.sql_ast.specs.declared.statement.CreatePolicy.{CreatePolicy}
use Rattle.sql_ast.specs.declared.statement.DropPolicy.{DropPolicy}
use Rattle.sql_ast.specs.declared.statement.Grant.{Grant}
use Rattle.sql_ast.specs.declared.statement.Revoke.{Revoke}
use Rattle.sql_ast.specs.declared.statement.Insert.{Insert}
use Rattle.sql_ast.specs.declared.statement.Update.{Update}
use Rattle.sql_ast.specs.declared.statement.Delete.{Delete}
use Rattle.sql_ast.specs.declared.statement.Select.{Select}
use Rattle.sql_ast.specs.Term.{Term}
use Rattle.expressions.specs.Meaning.{UserNames}
use Rattle.abstract_database.specs.Lists.{TheName, found_or, optional, has_double}
use Rattle.expressions.specs.Parts.{Part, resolve_parts, check_expressions}
use Rattle.expressions.specs.Stages.{◌>>=◌, require, each}
use Rattle.abstract_database.specs.Database.{TableOf, Table, Database, has_role, table_named, definition_named, is_policy_named}
use Rattle.abstract_database.specs.Roles.{is_superuser, acts_as_owner, may_grant_role, memberships_of, with_memberships}
use Rattle.abstract_database.specs.Privileges.{has_privilege, has_on_some_column, has_some_privilege, is_column_named, columns_named, privileges_of, role_of, granted_by, revoked}
use Rattle.abstract_database.specs.Expressions.{own_scope, column_type}
use Rattle.abstract_database.specs.Sizes.{policy_size}
use Rattle.sql_ast.specs.Rows.{max_value_length}
use Rattle.abstract_database.specs.Queries.{tables_in, name_in_scope, scope_of, bound_query, CheckedSelect}
use Rattle.abstract_database.specs.Changes.{CheckedInsert, CheckedUpdate, CheckedDelete}
use Rattle.abstract_database.specs.Definitions.{is_in_use, definitions_of, key_names, layout_of, policy_of}
use Rattle.sql_ast.specs.declared.role.Membership.{Membership}
use Rattle.sql_ast.specs.declared.privilege.Descriptor.{Descriptor}
use Rattle.sql_ast.specs.declared.statement.TableElement.{TableElement}
use Rattle.sql_ast.specs.declared.statement.ColumnDefinition.{ColumnDefinition}
use Rattle.sql_ast.specs.Layout.{Layout}
use Rattle.sql_ast.specs.Scope.{Table as ScopeTable}
use Rattle.expressions.specs.Names.{resolved}
use Rattle.abstract_database.specs.Needs.{Need, privilege, some_column, has_any, columns_read, needs_of_query, needs_of_insert, needs_of_update, needs_of_delete}

-- ---- what must be there

abbrev pub find_table : Database → TheName → Result Table SqlState
find_table db name = found_or UndefinedTable (table_named db name)

abbrev pub find_definition : Database → TheName → Result TableOf SqlState
find_definition db name = found_or UndefinedTable (definition_named db name)

abbrev pub require_roles : Database → List TheName → Result (Unit {0}) SqlState
require_roles db names = require (list_all (has_role db) names) UndefinedObject

-- the index of the column of a name
abbrev pub found_column : Layout → TheName → Result ℕ SqlState
found_column layout name = found_or UndefinedColumn (position (is_column_named name) layout.columns)

abbrev pub grantee_roles : List Grantee → List TheName
grantee_roles grantees = flat_map role_of grantees

-- a table's definition is changed by a superuser or a role that is in the owner
abbrev pub require_owner : Database → UserNames → TableOf → Result (Unit {0}) SqlState
require_owner db users table = require (acts_as_owner db users.current table.owner) InsufficientPrivilege

abbrev pub require_superuser : Database → UserNames → Result (Unit {0}) SqlState
require_superuser db users = require (is_superuser db users.current) InsufficientPrivilege

abbrev pub has_needed : Database → UserNames → Need → Bool
has_needed db users (privilege table p) = has_privilege db users.current table p
has_needed db users (some_column table a) = has_on_some_column db users.current table a

-- the privileges that a statement needs
abbrev pub require_needs : Database → UserNames → List Need → Result (Unit {0}) SqlState
require_needs db users needs = require (list_all (has_needed db users) needs) InsufficientPrivilege

-- ---- roles

abbrev pub checked_create_role : Database → UserNames → CreateRole → Result (Unit {0}) SqlState
checked_create_role db users s = do
  named ← require (not (has_role db s.role)) DuplicateObject
  require_superuser db users

abbrev pub checked_drop_role : Database → UserNames → DropRole → Result (Unit {0}) SqlState
checked_drop_role db users s = do
  named ← require_roles db (s.role ∷ [])
  allowed ← require_superuser db users
  require (not (is_in_use db s.role || bytes_eq users.current s.role || bytes_eq users.session s.role)) DependentObjects

-- the memberships that there are after the statement
abbrev pub checked_grant_role : Database → UserNames → GrantRole → Result (List Membership) SqlState
checked_grant_role db users s = do
  named ← require_roles db (s.roles ++ s.members)
  allowed ← require (list_all (may_grant_role db users.current) s.roles) InsufficientPrivilege
  with_memberships (memberships_of s.roles s.members s.with_admin_option) db.memberships

abbrev pub checked_revoke_role : Database → UserNames → RevokeRole → Result (Unit {0}) SqlState
checked_revoke_role db users s = do
  named ← require_roles db (s.roles ++ s.members)
  require (list_all (may_grant_role db users.current) s.roles) InsufficientPrivilege

-- ---- tables

abbrev pub is_column_of : List ColumnDefinition → TheName → Bool
is_column_of definitions name = list_any (λ d. bytes_eq d.column name) definitions

-- the columns of a new table beside so many others, and its key
abbrev pub checked_layout : List TableElement → ℕ → Result Layout SqlState
checked_layout elements count = do
  once ← require (not (has_double (map (λ d. d.column) (definitions_of elements)))) DuplicateColumn
  key_once ← require (not (has_double (key_names elements))) DuplicateColumn
  key_found ← require (list_all (is_column_of (definitions_of elements)) (key_names elements)) UndefinedColumn
  few ← require (nat_le (length (definitions_of elements)) 16 && nat_lt count 1024) ProgramLimitExceeded
  Ok (layout_of elements)

abbrev pub checked_create_table : Database → UserNames → CreateTable → Result Layout SqlState
checked_create_table db users s = do
  named ← require (is_none (table_named db s.table)) DuplicateTable
  checked_layout s.elements (length db.tables)

abbrev pub checked_drop_table : Database → UserNames → DropTable → Result (Unit {0}) SqlState
checked_drop_table db users s = do
  table ← find_definition db s.table
  require_owner db users table

abbrev pub checked_alter_table : Database → UserNames → AlterTable → Result (Unit {0}) SqlState
checked_alter_table db users s = do
  table ← find_definition db s.table
  require_owner db users table

-- ---- policies

abbrev pub clause_parts : TableOf → Option PolicyClause → List Part
clause_parts table None = []
clause_parts table (Some c) = record { scope = own_scope table; term = c.expression; expected = Some type.Boolean } ∷ []

abbrev pub policy_parts : TableOf → CreatePolicy → List Part
policy_parts table s = clause_parts table s.using ++ clause_parts table s.check

abbrev pub has_few_roles : PolicyRoles → Bool
has_few_roles roles.Public = true
has_few_roles (roles.Only names) = nat_le (length names) 255

abbrev pub checked_create_policy : Database → UserNames → CreatePolicy → Result (Unit {0}) SqlState
checked_create_policy db users s = do
  table ← find_definition db s.table
  named ← require_roles db (grantee_roles (unwrap_or s.grantees []))
  new ← require (not (list_any (is_policy_named s.table s.policy) db.policies)) DuplicateObject
  found ← resolve_parts (policy_parts table s)
  typed ← check_expressions (policy_parts table s)
  allowed ← require_owner db users table
  require (has_few_roles (policy_of s).roles && nat_le (policy_size (policy_of s)) max_value_length) ProgramLimitExceeded

abbrev pub checked_drop_policy : Database → UserNames → DropPolicy → Result (Unit {0}) SqlState
checked_drop_policy db users s = do
  table ← find_definition db s.table
  named ← require (list_any (is_policy_named s.table s.policy) db.policies) UndefinedObject
  require_owner db users table

-- ---- privileges

abbrev pub is_public : Grantee → Bool
is_public grantee.Public = true
is_public (grantee.Role name) = false

-- the table whose privileges are granted
abbrev pub checked_grant : Database → UserNames → Grant → Result TableOf SqlState
checked_grant db users s = do
  table ← find_definition db s.table
  named ← require_roles db (grantee_roles s.grantees)
  columns ← each (found_column table.layout) (columns_named s.privileges)
  allowed ← require (has_some_privilege db users.current s.table) InsufficientPrivilege
  not_public ← require (not (s.with_grant_option && list_any is_public s.grantees)) InvalidGrantOperation
  Ok table

-- the table whose privileges are revoked, and the descriptors that there are after the statement
pub record CheckedRevoke : Type 0 where
  pub table : TableOf
  pub descriptors : List Descriptor

abbrev pub checked_revoke : Database → UserNames → Revoke → Result CheckedRevoke SqlState
checked_revoke db users s = do
  table ← find_definition db s.table
  named ← require_roles db (grantee_roles s.grantees)
  columns ← each (found_column table.layout) (columns_named s.privileges)
  allowed ← require (has_some_privilege db users.current s.table) InsufficientPrivilege
  descriptors ← revoked s.grant_option_for s.behavior (granted_by db users.current table (privileges_of table.layout s.privileges) s.grantees false) db.descriptors
  Ok (record { table = table; descriptors = descriptors })

-- ---- new values

-- new values beside their columns, over the tables whose columns they may name: each has its column's type
abbrev pub value_parts : List ScopeTable → Layout → List ℕ → List (Term ColumnName) → List Part
value_parts scope layout (c ∷ cs) (e ∷ es) = record { scope = scope; term = e; expected = column_type layout c } ∷ value_parts scope layout cs es
value_parts scope layout _ _ = []

-- ---- INSERT

-- with a column list there is a value for each column of it, and without one there may be fewer values than columns
abbrev pub counts_fit : Layout → Option (List TheName) → List (Term ColumnName) → Bool
counts_fit layout None terms = nat_le (length terms) (length layout.columns)
counts_fit layout (Some names) terms = length terms == length names

-- how many values there are in a row
abbrev pub row_width : List (List (Term ColumnName)) → ℕ
row_width [] = 0
row_width (row ∷ rows) = length row

-- the columns that values are given to: those of the column list, or without one as many from the left as a row has values
abbrev pub target_columns : Layout → Insert → Result (List ℕ) SqlState
target_columns layout s = those s.columns where
  those : Option (List TheName) → Result (List ℕ) SqlState
  those None = Ok (range_with_len 0 (row_width s.rows))
  those (Some names) = each (found_column layout) names

-- the values of all rows, which may name no column
abbrev pub insert_parts : Layout → List ℕ → List (List (Term ColumnName)) → List Part
insert_parts layout columns rows = flat_map (value_parts [] layout columns) rows

abbrev pub checked_insert : Database → UserNames → Insert → Result CheckedInsert SqlState
checked_insert db users s = do
  table ← find_definition db s.table
  once ← require (not (has_double (unwrap_or s.columns []))) DuplicateColumn
  counted_right ← require (list_all (counts_fit table.layout s.columns) s.rows) SyntaxError
  columns ← target_columns table.layout s
  rows ← each (each (resolved [])) s.rows
  typed ← check_expressions (insert_parts table.layout columns s.rows)
  allowed ← require_needs db users (needs_of_insert table columns)
  few ← require (nat_le (length s.rows) 256) ProgramLimitExceeded
  Ok (record { table = table; columns = columns; rows = rows })

-- ---- UPDATE and DELETE

abbrev pub condition_parts : TableOf → Option (Term ColumnName) → List Part
condition_parts table None = []
condition_parts table (Some term) = record { scope = own_scope table; term = term; expected = Some type.Boolean } ∷ []

-- the names of the columns that are set
abbrev pub set_names : Update → List TheName
set_names s = map (λ a. a.column) s.assignments

-- their new values, in the same order
abbrev pub new_values : Update → List (Term ColumnName)
new_values s = map (λ a. a.value) s.assignments

abbrev pub update_parts : TableOf → List ℕ → Update → List Part
update_parts table columns s = value_parts (own_scope table) table.layout columns (new_values s) ++ condition_parts table s.condition

abbrev pub checked_update : Database → UserNames → Update → Result CheckedUpdate SqlState
checked_update db users s = do
  table ← find_definition db s.table
  once ← require (not (has_double (set_names s))) DuplicateColumn
  columns ← each (found_column table.layout) (set_names s)
  values ← each (resolved (own_scope table)) (new_values s)
  condition ← optional (resolved (own_scope table)) s.condition
  typed ← check_expressions (update_parts table columns s)
  allowed ← require_needs db users (needs_of_update table columns values condition)
  Ok (record { table = table; columns = columns; values = values; condition = condition; reads = has_any (columns_read 0 (values ++ option_to_list condition)) })

abbrev pub checked_delete : Database → UserNames → Delete → Result CheckedDelete SqlState
checked_delete db users s = do
  table ← find_definition db s.table
  condition ← optional (resolved (own_scope table)) s.condition
  typed ← check_expressions (condition_parts table s.condition)
  allowed ← require_needs db users (needs_of_delete table condition)
  Ok (record { table = table; condition = condition; reads = has_any (columns_read 0 (option_to_list condition)) })

-- ---- SELECT

abbrev pub checked_select : Database → UserNames → Select → Result CheckedSelect SqlState
checked_select db users s = do
  tables ← each (λ r. find_definition db r.table) (tables_in s.source)
  called_once ← require (not (has_double (map name_in_scope (tables_in s.source)))) DuplicateAlias
  query ← bound_query (scope_of (tables_in s.source) tables) s.list s.source
  allowed ← require_needs db users (needs_of_query tables query)
  few ← require (nat_le (length tables) 4) ProgramLimitExceeded
  Ok (record { tables = tables; query = query })
