-- What is asked of a role that changes a table or drops it.
use Rattle.std.specs.Prelude.{Result}
use Rattle.sql_types.specs.declared.state.SqlState.{SqlState}
use Rattle.sql_types.specs.declared.state.SqlState.TheVariants.{InsufficientPrivilege}
use Rattle.expressions.specs.Stages.{◌>>=◌, require}
use Rattle.abstract_database.specs.Lists.{TheName}
use Rattle.abstract_database.specs.Roles.{acts_as_owner}
use Rattle.abstract_database.specs.Checks.{find_definition}
use Rattle.stored_database.specs.Definitions.{Definitions, database_of}

-- there is a table of this name, and the role is a superuser or is in the owner
abbrev pub owned : Definitions → TheName → TheName → Result (Unit {0}) SqlState
owned d current name = do
  table ← find_definition (database_of d) name
  require (acts_as_owner (database_of d) current table.owner) InsufficientPrivilege
