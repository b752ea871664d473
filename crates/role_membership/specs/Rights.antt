-- What is asked of a statement that grants or takes memberships before its memberships are looked at.
use Rattle.std.specs.Prelude.{List, [], ◌++◌, Result}
use Rattle.std.specs.List.{list_all}
use Rattle.sql_types.specs.declared.state.SqlState.{SqlState}
use Rattle.sql_types.specs.declared.state.SqlState.TheVariants.{InsufficientPrivilege}
use Rattle.sql_ast.specs.declared.role.Role.{Role}
use Rattle.sql_ast.specs.declared.role.Membership.{Membership}
use Rattle.expressions.specs.Stages.{◌>>=◌, require}
use Rattle.abstract_database.specs.Lists.{TheName}
use Rattle.abstract_database.specs.Database.{Database}
use Rattle.abstract_database.specs.Roles.{may_grant_role}
use Rattle.abstract_database.specs.Checks.{require_roles}

-- a database of these roles and memberships
abbrev pub database_of : List Role → List Membership → Database
database_of roles memberships = record { roles = roles; memberships = memberships; tables = []; descriptors = []; policies = [] }

-- each name is a role's, and the current role may grant each of the roles
abbrev pub checked_names : Database → TheName → List TheName → List TheName → Result (Unit {0}) SqlState
checked_names db current roles members = do
  named ← require_roles db (roles ++ members)
  require (list_all (may_grant_role db current) roles) InsufficientPrivilege
