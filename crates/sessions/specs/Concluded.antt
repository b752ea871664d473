-- What is to be done once a statement of an open session is carried out over what the session sees.
use Rattle.std.specs.Prelude.{◌≡◌, ℕ, Option, Some, Result, Ok}
use Rattle.sql_ast.specs.declared.statement.Statement.{Statement}
use Rattle.sql_ast.specs.declared.statement.Statement.TheVariants as statement
use Rattle.sql_ast.specs.declared.statement.DatabaseStatement.{DatabaseStatement}
use Rattle.store.specs.Records.{Records}
use Rattle.store.specs.declared.stop.StatementError.{StatementError}
use Rattle.abstract_database.specs.Database.{Database}
use Rattle.abstract_database.specs.Machine.{Holder, Session, session_of, users_of, seen_by, may_execute, execute_in}
use Rattle.abstract_database.specs.Runs.{CommitsAt}
use Rattle.abstract_database.specs.Statements.{exec}
use Rattle.stored_database.specs.Definitions.{Definitions}
use Rattle.catalogue.specs.declared.effect.Effect.{Effect}
use Rattle.catalogue.specs.Executed.{Executes}
use Rattle.server.specs.declared.decision.Decision.{Decision}
use Rattle.server.specs.declared.writer.Writer.{Writer}
use Rattle.server.specs.Standing.{HolderShows, HoldsInBlock}
use Rattle.server.specs.Decisions.{Entries, machine_at}
use Rattle.sessions.specs.Writers.{definitions_seen}
use Rattle.sessions.specs.Decisions.{Makes}
use Rattle.sessions.specs.Visible.{records_seen}

-- the session of this number is open in the machine, and it may execute the statement
pub record IsAdmitted (number : ℕ) (s : Session) (x : Statement) (db : Database) (holder : Option Holder) (sessions : Entries) : Type 0 where
  pub is_open : session_of number sessions ≡ Some s
  pub may : may_execute (machine_at db holder sessions) number s x ≡ Ok tt

-- over what the session sees of the records and the definitions, the statement comes to this
abbrev pub ComesTo : Records → Definitions → Option Writer → Database → Option Holder → ℕ → Session → DatabaseStatement → Result Effect StatementError → Type 0
ComesTo records d writer db holder number s x result =
    Executes (records_seen number writer records) (definitions_seen number writer d) result (exec (seen_by number holder db) (users_of s) x)

-- wherever the session was admitted with the statement and the statement came to this, the decision makes the statement's transition;
-- there is a commit only of a statement outside a block that changes the database
abbrev pub Concludes : ℕ → Session → DatabaseStatement → Result Effect StatementError → Decision → Type 0
Concludes number s x result what = (records : Records) (d : Definitions) (writer : Option Writer) (db : Database) (holder : Option Holder) (sessions : Entries)
    → HolderShows records d writer holder → HoldsInBlock holder sessions → IsAdmitted number s (statement.OnDatabase x) db holder sessions
    → ComesTo records d writer db holder number s x result
    → Makes records d writer db holder sessions (CommitsAt (machine_at db holder sessions) number s.block (statement.OnDatabase x)) (execute_in (machine_at db holder sessions) number s (Ok (statement.OnDatabase x))) what
