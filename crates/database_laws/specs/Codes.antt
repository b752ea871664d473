-- The codes with which statements of the database are refused, and those that come of sessions, of a store or of a connection alone.
use Rattle.std.specs.Prelude.{◌≡◌, ℕ, Bool, true, false, IsSome, Err}
use Rattle.sql_types.specs.declared.state.SqlState.{SqlState}
use Rattle.sql_types.specs.declared.state.SqlState.TheVariants.{InFailedTransaction, LockNotAvailable, InvalidAuthorization, TooManyConnections, DiskFull, OutOfMemory, IoError, ProtocolViolation, ConnectionDoesNotExist, ConnectionNameInUse}
use Rattle.sql_types.specs.declared.answer.Answer.TheVariants as answer
use Rattle.sql_ast.specs.declared.statement.DatabaseStatement.{DatabaseStatement}
use Rattle.abstract_database.specs.Database.{Database}
use Rattle.abstract_database.specs.Statements.{UserPair, exec}
use Rattle.abstract_database.specs.Machine.{Event, executes, Reading, Machine, session_of, transition}

-- whether a statement of the database may be refused so by itself: not for its block, its session, the writer lock or a connection,
-- and not for want of memory or space, or by the device
abbrev pub is_of_statements : SqlState → Bool
is_of_statements InFailedTransaction = false
is_of_statements InvalidAuthorization = false
is_of_statements LockNotAvailable = false
is_of_statements TooManyConnections = false
is_of_statements ProtocolViolation = false
is_of_statements ConnectionDoesNotExist = false
is_of_statements ConnectionNameInUse = false
is_of_statements DiskFull = false
is_of_statements OutOfMemory = false
is_of_statements IoError = false
is_of_statements _ = true

-- it is refused with no other code
abbrev pub statements_have_codes_of_their_own : Type 0
statements_have_codes_of_their_own = (db : Database) (pair : UserPair) (x : DatabaseStatement) (code : SqlState) → exec db pair x ≡ Err code → is_of_statements code ≡ true

-- whether it is the refusal for memory, for space, or of the device
abbrev pub is_of_stores : SqlState → Bool
is_of_stores DiskFull = true
is_of_stores OutOfMemory = true
is_of_stores IoError = true
is_of_stores _ = false

-- the event is a text in an open session that was read as this refusal
pub record IsReadAsRefused (m : Machine) (event : Event Reading) (code : SqlState) : Type 0 where
  pub number : ℕ
  pub session : IsSome (session_of number m.sessions)
  pub read : event ≡ executes number (Err code)

-- a machine that has not stopped gives no other event such a refusal
abbrev pub machines_need_no_store : Type 0
machines_need_no_store = (m : Machine) (event : Event Reading) (code : SqlState) → m.stopped ≡ false → is_of_stores code ≡ true → (transition m event).answer ≡ answer.Refused code → IsReadAsRefused m event code
