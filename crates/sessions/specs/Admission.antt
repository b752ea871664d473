-- Whether a session may execute a statement, by the definitions that it sees.
use Rattle.std.specs.Prelude.{◌≡◌, ℕ, Option, Some, None, Result, Ok, Err}
use Rattle.sql_types.specs.declared.state.SqlState.{SqlState}
use Rattle.abstract_database.specs.Database.{Database}
use Rattle.abstract_database.specs.Machine.{Machine, seen}
use Rattle.stored_database.specs.Definitions.{Definitions}

-- the database has the roles and the memberships of these definitions
pub record HasRolesOf (d : Definitions) (db : Database) : Type 0 where
  pub roles : db.roles ≡ d.roles
  pub memberships : db.memberships ≡ d.memberships

-- and so has the one that a session sees
abbrev pub SeesRolesOf : Definitions → ℕ → Machine → Type 0
SeesRolesOf d number m = HasRolesOf d (seen m number)

-- admitted, or refused by a code
abbrev pub admission_of : Option SqlState → Result (Unit {0}) SqlState
admission_of None = Ok tt
admission_of (Some code) = Err code
