-- Statements carried out over definitions: what they answer in each database that these describe, the next definitions, and
-- the changes that lead there.
use Rattle.std.specs.Prelude.{◌≡◌, ◌⊎◌, Ok, Err}
use Rattle.sql_types.specs.declared.answer.Answer.{Answer}
use Rattle.sql_types.specs.declared.state.Refusal.{Refusal}
use Rattle.sql_types.specs.declared.state.SqlState.TheVariants.{OutOfMemory}
use Rattle.expressions.specs.Meaning.{UserNames}
use Rattle.store.specs.Records.{Records, Changes, IsOrdered, applied}
use Rattle.abstract_database.specs.Lists.{TheName}
use Rattle.abstract_database.specs.Database.{Database}
use Rattle.abstract_database.specs.Statements.{effect}
use Rattle.stored_database.specs.Definitions.{Definitions}
use Rattle.stored_database.specs.Valid.{Describes}
use Rattle.stored_database.specs.Records.{Shows}
use Rattle.catalogue.specs.Executed.{Execution}

-- ---- whose statement it is

-- the current role is of this name
abbrev pub IsCurrent : TheName → UserNames → Type 0
IsCurrent current users = users.current ≡ current

-- the current role and the login role are of these names
pub record AreUsers (role login : TheName) (users : UserNames) : Type 0 where
  pub current : users.current ≡ role
  pub session : users.session ≡ login

-- ---- carried out

-- where records with the changes of before show the one database, those with the changes of afterwards show the other
abbrev pub LeadFrom : Changes → Changes → Definitions → Database → Definitions → Database → Type 0
LeadFrom old new d db next after =
    (records : Records) → IsOrdered records → Shows (applied old records) d db → Shows (applied new records) next after

-- in this database the statement is not refused; the next definitions are those of the database after it, and the changes lead there
pub record IsCarriedOut (run : Execution) (d : Definitions) (answer : Answer) (next : Definitions) (old new : Changes) (db : Database) (users : UserNames) : Type 0 where
  pub after : Database
  pub effects : run db users ≡ Ok (effect answer after)
  pub describes : Describes next after
  pub leads : LeadFrom old new d db next after

-- the statement of such users is carried out in each database of these definitions
abbrev pub Carries : (UserNames → Type 0) → Execution → Definitions → Answer → Definitions → Changes → Changes → Type 0
Carries who run d answer next old new =
    (db : Database) (users : UserNames) → Describes d db → who users → IsCarriedOut run d answer next old new db users

-- ---- refused

-- memory was refused, or each database of these definitions refuses the statement of such users in this way
abbrev pub Refuses : (UserNames → Type 0) → Execution → Definitions → Refusal → Type 0
Refuses who run d refusal = (refusal.0 ≡ OutOfMemory)
    ⊎ ((db : Database) (users : UserNames) → Describes d db → who users → run db users ≡ Err refusal.0)
