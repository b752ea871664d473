-- Whether a session may not execute a statement since another session holds the writer lock, and whether one that it may execute asks for it.
use Rattle.std.specs.Prelude.{◌≡◌, ◌≢◌, Bool, true, false, Option, Result, Ok, Err}
use Rattle.sql_types.specs.declared.state.SqlState.{SqlState}
use Rattle.sql_types.specs.declared.state.SqlState.TheVariants.{LockNotAvailable}
use Rattle.sql_ast.specs.declared.statement.Statement.{Statement}
use Rattle.store.specs.Records.{Records}
use Rattle.abstract_database.specs.Database.{Database}
use Rattle.abstract_database.specs.Machine.{Holder, is_writing, may_execute}
use Rattle.server.specs.Decisions.{Entries, machine_at}
use Rattle.sessions.specs.Serving.{IsOpenOver}
use Rattle.sessions.specs.declared.statements.OpenSession.{OpenSession}

-- whether the statement is refused, and for the writer lock
abbrev pub IsForLock : Bool → Result (Unit {0}) SqlState → Type 0
IsForLock true admission = admission ≡ Err LockNotAvailable
IsForLock false admission = admission ≢ Err LockNotAvailable

-- in each machine that some records show and in which the session is open
abbrev pub TellsRefusal : OpenSession → Statement → Bool → Type 0
TellsRefusal at x is = (records : Records) (db : Database) (holder : Option Holder) (sessions : Entries)
    → IsOpenOver records at db holder sessions → IsForLock is (may_execute (machine_at db holder sessions) at.number at.session.now x)

-- whether the statement changes the database, and the session may execute it
abbrev pub IsAdmittedWriting : Statement → Bool → Result (Unit {0}) SqlState → Type 0
IsAdmittedWriting x true admission = (is_writing x ≡ true) × (admission ≡ Ok tt)
IsAdmittedWriting x false admission = (is_writing x ≡ true) × (admission ≡ Ok tt) → ⊥

-- in each machine that some records show and in which the session is open
abbrev pub TellsWriting : OpenSession → Statement → Bool → Type 0
TellsWriting at x is = (records : Records) (db : Database) (holder : Option Holder) (sessions : Entries)
    → IsOpenOver records at db holder sessions → IsAdmittedWriting x is (may_execute (machine_at db holder sessions) at.number at.session.now x)
