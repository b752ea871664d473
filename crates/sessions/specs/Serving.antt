-- What a statement of an open session makes of the machine of a server that works.
use Rattle.std.specs.Prelude.{◌≡◌, ◌⊎◌, Option, Some, Result, Ok, Err}
use Rattle.sql_types.specs.declared.state.SqlState.{SqlState}
use Rattle.sql_ast.specs.declared.statement.Statement.{Statement}
use Rattle.sql_ast.specs.declared.statement.Statement.TheVariants as statement
use Rattle.sql_ast.specs.declared.statement.SessionStatement.TheVariants as of_session
use Rattle.store.specs.Records.{Records}
use Rattle.store.specs.declared.fault.Fault.{Fault}
use Rattle.store.specs.declared.fault.Fault.TheVariants.{Memory, Device, Damaged}
use Rattle.store.specs.declared.stop.StatementError.{StatementError}
use Rattle.store.specs.declared.stop.StatementError.TheVariants.{Refused, Failed}
use Rattle.abstract_database.specs.Database.{Database}
use Rattle.abstract_database.specs.Machine.{Machine, Holder, Transition, session_of, may_execute, refused, execute_in}
use Rattle.abstract_database.specs.Runs.{CommitsAt}
use Rattle.stored_database.specs.Definitions.{Definitions}
use Rattle.stored_database.specs.Records.{Shows}
use Rattle.server.specs.declared.decision.Decision.{Decision}
use Rattle.server.specs.declared.writer.Writer.{Writer}
use Rattle.server.specs.Standing.{HolderShows, HoldsInBlock}
use Rattle.server.specs.Decisions.{Entries, machine_at}
use Rattle.sessions.specs.Decisions.{Makes, Always}
use Rattle.sessions.specs.declared.statements.OpenSession.{OpenSession}

-- the statement is one that ends a block
abbrev pub EndsBlock : Statement → Type 0
EndsBlock x = (x ≡ statement.OfSession of_session.Commit) ⊎ (x ≡ statement.OfSession of_session.Rollback)

-- the machine lets the session execute the statement
abbrev pub Admits : OpenSession → Statement → Machine → Type 0
Admits at x m = may_execute m at.number at.session.now x ≡ Ok tt

-- the decision makes this transition, unless an allocation or the device failed
abbrev pub MakesAt : Records → Definitions → Option Writer → Database → Option Holder → Entries → Type 0 → Transition → Result Decision Fault → Type 0
MakesAt records d writer db holder sessions MayCommit t (Ok what) = Makes records d writer db holder sessions MayCommit t what
MakesAt records d writer db holder sessions MayCommit t (Err Memory) = Unit {0}
MakesAt records d writer db holder sessions MayCommit t (Err Device) = Unit {0}
MakesAt records d writer db holder sessions MayCommit t (Err Damaged) = ⊥

-- these records and the writer lock show the database and the holder, which is in a block, and the session is open
pub record IsOpenOver (records : Records) (at : OpenSession) (db : Database) (holder : Option Holder) (sessions : Entries) : Type 0 where
  pub committed : Shows records at.catalogue.now db
  pub held : HolderShows records at.catalogue.now at.writer.now holder
  pub in_block : HoldsInBlock holder sessions
  pub is_open : session_of at.number sessions ≡ Some at.session.now

-- in each machine that the records show and in which the session is open, where this is given, the decision makes the transition of the
-- statement; there is a commit only where the statement may commit
abbrev pub ServesOver : Records → OpenSession → Statement → (Machine → Type 0) → Result Decision Fault → Type 0
ServesOver records at x Given result = (db : Database) (holder : Option Holder) (sessions : Entries)
    → IsOpenOver records at db holder sessions → Given (machine_at db holder sessions)
    → MakesAt records at.catalogue.now at.writer.now db holder sessions (CommitsAt (machine_at db holder sessions) at.number at.session.now.block x)
    (execute_in (machine_at db holder sessions) at.number at.session.now (Ok x)) result

-- ---- why a statement is not carried out

-- in each such machine the session may execute the statement, or it may not, by this code; or an allocation failed
abbrev pub IsAdmission : {A : Type 0} → Records → OpenSession → Statement → Result A StatementError → Type 0
IsAdmission records at x (Ok admitted) = (db : Database) (holder : Option Holder) (sessions : Entries)
    → IsOpenOver records at db holder sessions → Admits at x (machine_at db holder sessions)
IsAdmission records at x (Err (Refused code)) = (db : Database) (holder : Option Holder) (sessions : Entries)
    → IsOpenOver records at db holder sessions → may_execute (machine_at db holder sessions) at.number at.session.now x ≡ Err code
IsAdmission records at x (Err (Failed fault)) = fault ≡ Memory

-- in each such machine the statement is refused by this code
abbrev pub RefusesAdmission : Records → OpenSession → Statement → SqlState → Type 0
RefusesAdmission records at x code = (db : Database) (holder : Option Holder) (sessions : Entries)
    → IsOpenOver records at db holder sessions
    → execute_in (machine_at db holder sessions) at.number at.session.now (Ok x) ≡ refused (machine_at db holder sessions) at.number at.session.now code

-- the statement is carried out by this decision, or it is refused by this code, or an allocation or the device failed
abbrev pub CarriesOut : Records → OpenSession → Statement → Result Decision StatementError → Type 0
CarriesOut records at x (Ok what) = ServesOver records at x Always (Ok what)
CarriesOut records at x (Err (Refused code)) = RefusesAdmission records at x code
CarriesOut records at x (Err (Failed fault)) = ServesOver records at x Always (Err fault)
