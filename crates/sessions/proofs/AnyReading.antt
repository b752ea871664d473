-- What is decided on opening and on closing a session whatever texts are read as.
use Rattle.std.proofs.Common.{ℕ, Option}
use Rattle.store.specs.Records.{Records}
use Rattle.abstract_database.specs.Lists.{TheName}
use Rattle.abstract_database.specs.Database.{Database}
use Rattle.abstract_database.specs.Machine.{Event, opens, closes, Reading, Machine, Holder, Transition}
use Rattle.abstract_database.specs.Runs.{TheText, ReadingRelation, IsReadAs, IsTransition, MayCommit}
use Rattle.stored_database.specs.Definitions.{Definitions}
use Rattle.server.specs.declared.decision.Decision.{Decision}
use Rattle.server.specs.declared.decision.Decision.TheVariants as decision
use Rattle.server.specs.declared.writer.Writer.{Writer}
use Rattle.server.specs.Decisions.{Entries, machine_at, Decides}
use Rattle.sessions.specs.Decisions.{NoText}

module _ (Reads : ReadingRelation) (e : Event TheText) (read : (m : Machine) (x : Event Reading) → IsReadAs NoText m e x → IsReadAs Reads m e x)
    (commits : (m : Machine) → MayCommit NoText m e → MayCommit Reads m e) where
  leads : (m : Machine) (t : Transition) → IsTransition NoText m e t → IsTransition Reads m e t
  leads m t is = record { as_read = is.as_read; read = read m is.as_read is.read; is = is.is }

  decides : (records : Records) (d : Definitions) (writer : Option Writer) (db : Database) (holder : Option Holder) (sessions : Entries) (what : Decision)
      → Decides NoText records d writer db holder sessions e what → Decides Reads records d writer db holder sessions e what
  decides records d writer db holder sessions (decision.Answer a c) p = (p.0, p.1, leads _ _ p.2)
  decides records d writer db holder sessions (decision.Open a n s) p = (p.0, p.1, leads _ _ p.2)
  decides records d writer db holder sessions (decision.Release a c) p = (p.0, leads _ _ p.1)
  decides records d writer db holder sessions (decision.Commit made) p = (p.0, p.1, p.2, commits (machine_at db holder sessions) p.3, p.4, leads _ _ p.5)
  decides records d writer db holder sessions (decision.Hold n made) p = (p.0, p.1, p.2, p.3, leads _ _ p.4)
  decides records d writer db holder sessions (decision.CommitWriter a c) p = (p.0, p.1, p.2, commits (machine_at db holder sessions) p.3, p.4, leads _ _ p.5)

pub opening_decides : (Reads : ReadingRelation) (records : Records) (d : Definitions) (writer : Option Writer) (db : Database) (holder : Option Holder) (sessions : Entries) (number : ℕ) (login : TheName) (what : Decision)
    → Decides NoText records d writer db holder sessions (opens number login) what → Decides Reads records d writer db holder sessions (opens number login) what
opening_decides Reads records d writer db holder sessions number login what p =
    decides Reads (opens number login) (λ m x r. r) (λ m c. c) records d writer db holder sessions what p

pub closing_decides : (Reads : ReadingRelation) (records : Records) (d : Definitions) (writer : Option Writer) (db : Database) (holder : Option Holder) (sessions : Entries) (number : ℕ) (what : Decision)
    → Decides NoText records d writer db holder sessions (closes number) what → Decides Reads records d writer db holder sessions (closes number) what
closing_decides Reads records d writer db holder sessions number what p =
    decides Reads (closes number) (λ m x r. r) (λ m c. c) records d writer db holder sessions what p
