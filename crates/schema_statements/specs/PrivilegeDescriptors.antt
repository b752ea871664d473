-- GRANT and REVOKE on a table of a database.
use Rattle.std.specs.Prelude.{◌≡◌, ◌&&◌, Bool, true, false, not, List, find, Option, Some, None, Result}
use Rattle.std.specs.List.{list_any}
use Rattle.sql_types.specs.declared.state.SqlState.{SqlState}
use Rattle.sql_types.specs.declared.state.SqlState.TheVariants.{InsufficientPrivilege, InvalidGrantOperation}
use Rattle.sql_types.specs.declared.answer.Answer.TheVariants as answer
use Rattle.sql_types.specs.declared.tag.Tag.{Tag}
use Rattle.sql_types.specs.declared.warning.Warning.{Warning}
use Rattle.sql_ast.specs.Layout.{Layout}
use Rattle.sql_ast.specs.declared.role.Role.{Role}
use Rattle.sql_ast.specs.declared.role.Membership.{Membership}
use Rattle.sql_ast.specs.declared.privilege.Grantee.{Grantee}
use Rattle.sql_ast.specs.declared.privilege.Descriptor.{Descriptor}
use Rattle.sql_ast.specs.declared.policy.Policy.{Policy}
use Rattle.sql_ast.specs.declared.statement.Privileges.{Privileges}
use Rattle.sql_ast.specs.declared.statement.Grant.{Grant}
use Rattle.expressions.specs.Meaning.{UserNames}
use Rattle.expressions.specs.Stages.{◌>>=◌, require, each}
use Rattle.abstract_database.specs.Lists.{TheName}
use Rattle.abstract_database.specs.Database.{Database, Table, TableOf, is_table_named}
use Rattle.abstract_database.specs.Privileges.{columns_named, has_some_privilege}
use Rattle.abstract_database.specs.Checks.{found_column, require_roles, grantee_roles, is_public}
use Rattle.abstract_database.specs.Statements.{Effect, effect}

-- what is in a database beside its roles, memberships and descriptors, and who runs the statement: the table of this name is
-- this one, and this role is the current one
pub record Around (name : TheName) (t : TableOf) (current : TheName) : Type 0 where
  pub tables : List Table
  pub policies : List Policy
  pub users : UserNames
  pub table : Table
  pub found : find (is_table_named name) tables ≡ Some table
  pub is : table.definition ≡ t
  pub runs : users.current ≡ current

-- the database of these roles, memberships and descriptors, and of what is around them
abbrev pub database_in : {name : TheName} {t : TableOf} {current : TheName} → Around name t current → List Role → List Membership → List Descriptor → Database
database_in around roles memberships descriptors = record { roles = roles; memberships = memberships; tables = around.tables; descriptors = descriptors; policies = around.policies }

-- the statement was carried out, with this warning if any, and left this database
abbrev pub carried_out : Tag → Option Warning → Database → Effect
carried_out tag warning db = effect (answer.Done tag None warning) db

-- each grantee is PUBLIC or a role, each column that is named is there, and the current role has some privilege on the table
abbrev pub checked : Database → TheName → TheName → Layout → Privileges → List Grantee → Result (Unit {0}) SqlState
checked db current table layout privileges grantees = do
  named ← require_roles db (grantee_roles grantees)
  columns ← each (found_column layout) (columns_named privileges)
  require (has_some_privilege db current table) InsufficientPrivilege

-- the same, and PUBLIC gets no grant option
abbrev pub grant_checked : Database → TheName → Layout → Grant → Result (Unit {0}) SqlState
grant_checked db current layout s = do
  allowed ← checked db current s.table layout s.privileges s.grantees
  require (not (s.with_grant_option && list_any is_public s.grantees)) InvalidGrantOperation

-- a warning where the test holds, else none
abbrev pub warning_where : Bool → Warning → Option Warning
warning_where true warning = Some warning
warning_where false warning = None
