-- Laws of openings: for whom a session is opened.
use Rattle.std.specs.Prelude.{◌≡◌, ℕ, true}
use Rattle.sql_types.specs.declared.state.SqlState.TheVariants.{InvalidAuthorization}
use Rattle.sql_types.specs.declared.answer.Answer.TheVariants as answer
use Rattle.sql_ast.specs.declared.role.Role.{Role}
use Rattle.abstract_database.specs.Lists.{TheName, Among}
use Rattle.abstract_database.specs.Database.{Database}
use Rattle.abstract_database.specs.Machine.{opens, Machine, transition}
use Rattle.database_laws.specs.Blocks.{IsRefused}

-- a role of this name has LOGIN
abbrev pub HasLogin : Database → TheName → Type 0
HasLogin db name = (r : Role) × Among r db.roles × (r.name ≡ name) × (r.attributes.login ≡ true)

-- a session is opened for a role with LOGIN alone, superusers too
abbrev pub only_logins_open : Type 0
only_logins_open = (m : Machine) (number : ℕ) (login : TheName) → (IsRefused (transition m (opens number login)) → ⊥) → HasLogin m.committed login

-- and none with LOGIN is refused for want of it
abbrev pub logins_are_authorized : Type 0
logins_are_authorized = (m : Machine) (number : ℕ) (login : TheName) → HasLogin m.committed login → (transition m (opens number login)).answer ≡ answer.Refused InvalidAuthorization → ⊥
