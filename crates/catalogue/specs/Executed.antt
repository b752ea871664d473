-- What carrying out a statement over records comes to.
use Rattle.std.specs.Prelude.{◌≡◌, Result, Ok, Err}
use Rattle.sql_types.specs.declared.state.SqlState.{SqlState}
use Rattle.expressions.specs.Meaning.{UserNames}
use Rattle.store.specs.Records.{Records, Changes, IsOrdered, applied}
use Rattle.store.specs.declared.fault.Fault.TheVariants.{Memory, Device, Damaged}
use Rattle.store.specs.declared.stop.StatementError.{StatementError}
use Rattle.store.specs.declared.stop.StatementError.TheVariants.{Refused, Failed}
use Rattle.abstract_database.specs.Database.{Database}
use Rattle.abstract_database.specs.Statements.{Effect, effect}
use Rattle.stored_database.specs.Definitions.{Definitions}
use Rattle.stored_database.specs.Records.{Shows}
use Rattle.catalogue.specs.declared.effect.Effect.{Effect as TheEffect}
use Rattle.catalogue.specs.Changes.{definitions_after}

-- what a statement does in a database for its users: its answer and the database after it, or its refusal
abbrev pub Execution : Type 0
Execution = Database → UserNames → Result Effect SqlState

-- the changes lead from the records to records that show this database with these definitions
abbrev pub Leads : Changes → Records → Definitions → Database → Type 0
Leads changes records d after = Shows (applied changes records) d after

-- the statement is meant to be answered so, and the changes lead from these records to those of the database that is meant
pub record IsMade (records : Records) (d : Definitions) (made : TheEffect) (meant : Result Effect SqlState) : Type 0 where
  pub after : Database
  pub answered : meant ≡ Ok (effect made.answer after)
  pub leads : Leads made.changes records (definitions_after made.schema d) after

-- the statement is carried out or refused as is meant, unless an allocation or the device fails
abbrev pub Executes : Records → Definitions → Result TheEffect StatementError → Result Effect SqlState → Type 0
Executes records d (Ok made) meant = IsMade records d made meant
Executes records d (Err (Refused code)) meant = meant ≡ Err code
Executes records d (Err (Failed Memory)) meant = Unit {0}
Executes records d (Err (Failed Device)) meant = Unit {0}
Executes records d (Err (Failed Damaged)) meant = ⊥

-- over whatever records show a database of these definitions, the statement of such users is carried out or refused as is meant
abbrev pub Defines : (UserNames → Type 0) → Execution → Definitions → Result TheEffect StatementError → Type 0
Defines who run d result = (records : Records) (db : Database) (users : UserNames) →
    IsOrdered records → Shows records d db → who users → Executes records d result (run db users)
