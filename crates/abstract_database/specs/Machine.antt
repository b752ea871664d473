-- The machine of sessions over the abstract database: what each event of a session answers, and the machine after it.
use Rattle.std.specs.Prelude.{ℕ, ◌+◌, ◌*◌, ◌/◌, ◌%◌, nat_eq, nat_le, ◌==◌, Bool, true, false, not, ◌&&◌, ◌||◌, if◌then◌else◌, List, [], ◌∷◌, length, filter, is_some, Option, Some, None, Result, Ok, Err}
use Rattle.std.specs.Map.{lookup, remove_entry}
use Rattle.sql_types.specs.declared.state.SqlState.{SqlState}
use Rattle.sql_types.specs.declared.state.SqlState.TheVariants.{UndefinedObject, InsufficientPrivilege, InFailedTransaction, LockNotAvailable, InvalidAuthorization, TooManyConnections, ConnectionDoesNotExist, ConnectionNameInUse, IoError}
use Rattle.sql_types.specs.declared.answer.Answer.{Answer}
use Rattle.sql_types.specs.declared.answer.Answer.TheVariants as answer
use Rattle.sql_types.specs.declared.tag.Tag.{Tag}
use Rattle.sql_types.specs.declared.tag.Tag.TheVariants as tag
use Rattle.sql_types.specs.declared.warning.Warning.{Warning}
use Rattle.sql_types.specs.declared.warning.Warning.TheVariants as warning
use Rattle.sql_ast.specs.declared.statement.Statement.{Statement}
use Rattle.sql_ast.specs.declared.statement.Statement.TheVariants as statement
use Rattle.sql_ast.specs.declared.statement.DatabaseStatement.{DatabaseStatement}
use Rattle.sql_ast.specs.declared.statement.DatabaseStatement.TheVariants as on_database
use Rattle.sql_ast.specs.declared.statement.RowStatement.{RowStatement}
use Rattle.sql_ast.specs.declared.statement.RowStatement.TheVariants as over_rows
use Rattle.sql_ast.specs.declared.statement.SessionStatement.{SessionStatement}
use Rattle.sql_ast.specs.declared.statement.SessionStatement.TheVariants as of_session
use Rattle.abstract_database.specs.Lists.{TheName}
use Rattle.expressions.specs.Stages.{◌>>=◌, require}
use Rattle.abstract_database.specs.Database.{Database, has_role}
use Rattle.abstract_database.specs.Roles.{may_log_in, may_set_role}
use Rattle.abstract_database.specs.Statements.{Effect, UserPair, exec}

-- ---- events

-- an event of the session of a number; T is what a statement is given as: its text, or what the text was read as
pub data Event (T : Type 0) : Type 0 where
  opens : ℕ → TheName → Event T
  executes : ℕ → T → Event T
  closes : ℕ → Event T

-- what a text was read as: a statement, or the refusal of one
abbrev pub Reading : Type 0
Reading = Result Statement SqlState

-- ---- sessions

-- whether a session is in a block, and the set role that it had at the block's BEGIN, which comes back with a ROLLBACK
-- (SQL:2016 Foundation, 4.41; PostgreSQL manual, BEGIN and SET ROLE)
pub data Block : Type 0 where
  Outside : Block
  Inside : TheName → Block
  -- a statement of the block was refused: only COMMIT and ROLLBACK are answered
  Failed : TheName → Block

-- an open session: the role that it was opened for, the role that it has set, and its block
pub record Session : Type 0 where
  pub login : TheName
  pub role : TheName
  pub block : Block

-- ---- clients

-- the number in the machine of a client's own session: each client has 2^32 numbers, and no number of another
abbrev pub number_in : ℕ → ℕ → ℕ
number_in client session = client * 4294967296 + session % 4294967296

-- the client's own number of the session that has this number in the machine
abbrev pub own_number : ℕ → ℕ
own_number number = number % 4294967296

-- the client whose session has this number in the machine
abbrev pub client_of : ℕ → ℕ
client_of number = number / 4294967296

-- the open sessions of a client
abbrev pub own_sessions : ℕ → List (ℕ × Session) → List (ℕ × Session)
own_sessions client sessions = filter (λ e. nat_eq client (client_of e.0)) sessions

-- ---- machines

-- who holds the writer lock, and the database with that session's changes
pub record Holder : Type 0 where
  pub session : ℕ
  pub database : Database

pub record Machine : Type 0 where
  pub committed : Database
  pub holder : Option Holder
  -- in the order of their opening
  pub sessions : List (ℕ × Session)
  pub stopped : Bool

-- a machine over a database, with no session open
abbrev pub machine_over : Database → Machine
machine_over db = record { committed = db; holder = None; sessions = []; stopped = false }

-- what an event does: its answer, and the machine after it
pub record Transition : Type 0 where
  pub answer : Answer
  pub machine : Machine

abbrev pub transition_to : Answer → Machine → Transition
transition_to a m = record { answer = a; machine = m }

-- the event is refused, and the machine stays as it is
abbrev pub refuses : Machine → SqlState → Transition
refuses m code = transition_to (answer.Refused code) m

-- the event succeeds, and this machine comes after it
abbrev pub succeeds : Tag → Machine → Transition
succeeds t m = transition_to (answer.Done t None None) m

-- it succeeds with a warning
abbrev pub warns : Tag → Warning → Machine → Transition
warns t w m = transition_to (answer.Done t None (Some w)) m

-- ---- open sessions

abbrev pub session_of : ℕ → List (ℕ × Session) → Option Session
session_of number sessions = lookup (nat_eq number) sessions

-- the sessions with this one in place of the one of its number, or at the end
abbrev pub with_session : List (ℕ × Session) → ℕ → Session → List (ℕ × Session)
with_session [] number s = (number, s) ∷ []
with_session (e ∷ es) number s = if nat_eq number e.0 then (e.0, s) ∷ es else e ∷ with_session es number s

abbrev pub without_session : ℕ → List (ℕ × Session) → List (ℕ × Session)
without_session number sessions = remove_entry (nat_eq number) sessions

-- current_user is the set role, session_user the login role
abbrev pub users_of : Session → UserPair
users_of s = record { current = s.role; session = s.login }

abbrev pub in_block : Block → Session → Session
in_block block s = record s { block = block }

abbrev pub as_role : TheName → Session → Session
as_role role s = record s { role = role }

abbrev pub with_session_changed : Machine → ℕ → Session → Machine
with_session_changed m number s = record m { sessions = with_session m.sessions number s }

-- ---- the writer lock

abbrev pub is_held_by_other : ℕ → Option Holder → Bool
is_held_by_other number None = false
is_held_by_other number (Some h) = not (h.session == number)

-- the writer lock after the session has given it up, if it was its own
abbrev pub released : ℕ → Option Holder → Option Holder
released number None = None
released number (Some h) = if h.session == number then None else Some h

-- the database that a session sees: the holder its own, each other session the committed one
abbrev pub seen_by : ℕ → Option Holder → Database → Database
seen_by number None committed = committed
seen_by number (Some h) committed = if h.session == number then h.database else committed

abbrev pub seen : Machine → ℕ → Database
seen m number = seen_by number m.holder m.committed

-- ---- opening and closing

-- a client has 256 sessions open at most
abbrev pub open_session : Machine → ℕ → TheName → Transition
open_session m number login =
    if is_some (session_of number m.sessions) then refuses m ConnectionNameInUse
    else if nat_le 256 (length (own_sessions (client_of number) m.sessions)) then refuses m TooManyConnections
    else if may_log_in m.committed login then succeeds tag.Open (with_session_changed m number (record { login = login; role = login; block = Outside }))
    else refuses m InvalidAuthorization

-- an open block is rolled back
abbrev pub close_session : Machine → ℕ → Option Session → Transition
close_session m number None = refuses m ConnectionDoesNotExist
close_session m number (Some s) = succeeds tag.Close (record m { sessions = without_session number m.sessions; holder = released number m.holder })

-- ---- refusals

-- a refusal changes nothing but that it makes an open block failed
abbrev pub after_refusal : Machine → ℕ → Session → Block → Machine
after_refusal m number s Outside = m
after_refusal m number s (Inside role) = with_session_changed m number (in_block (Failed role) s)
after_refusal m number s (Failed role) = m

abbrev pub refused : Machine → ℕ → Session → SqlState → Transition
refused m number s code = refuses (after_refusal m number s s.block) code

abbrev pub transition_or_refusal : Machine → ℕ → Session → Result Transition SqlState → Transition
transition_or_refusal m number s (Ok t) = t
transition_or_refusal m number s (Err code) = refused m number s code

-- ---- before a statement is executed

-- whether the statement is one that changes the database
abbrev pub changes_rows : RowStatement → Bool
changes_rows (over_rows.Insert s) = true
changes_rows (over_rows.Update s) = true
changes_rows (over_rows.Delete s) = true
changes_rows (over_rows.Select s) = false

abbrev pub changes_database : DatabaseStatement → Bool
changes_database (on_database.OverRows x) = changes_rows x
changes_database (on_database.Defining x) = true

abbrev pub is_writing : Statement → Bool
is_writing (statement.OnDatabase x) = changes_database x
is_writing (statement.OfSession x) = false

-- whether the statement is one that sets a role
abbrev pub changes_role : SessionStatement → Bool
changes_role (of_session.SetRole x) = true
changes_role of_session.ResetRole = true
changes_role of_session.Begin = false
changes_role of_session.Commit = false
changes_role of_session.Rollback = false

abbrev pub sets_role : Statement → Bool
sets_role (statement.OnDatabase x) = false
sets_role (statement.OfSession x) = changes_role x

abbrev pub has_failed : Block → Bool
has_failed (Failed role) = true
has_failed (Inside role) = false
has_failed Outside = false

-- whether the session's set role is there and allowed
abbrev pub keeps_role : Database → Session → Bool
keeps_role db s = has_role db s.role && may_set_role db s.login s.role

-- refused in this order: in a failed block, without its login role, without its set role or the leave to set it, and
-- for the writer lock
abbrev pub may_execute : Machine → ℕ → Session → Statement → Result (Unit {0}) SqlState
may_execute m number s x = do
  unfailed ← require (not (has_failed s.block)) InFailedTransaction
  authorized ← require (has_role (seen m number) s.login) InvalidAuthorization
  allowed ← require (sets_role x || keeps_role (seen m number) s) InsufficientPrivilege
  require (not (is_writing x && is_held_by_other number m.holder)) LockNotAvailable

-- ---- statements that concern the session

abbrev pub begin : Machine → ℕ → Session → Block → Transition
begin m number s Outside = succeeds tag.Begin (with_session_changed m number (in_block (Inside s.role) s))
begin m number s (Inside role) = warns tag.Begin warning.ActiveTransaction m
begin m number s (Failed role) = refuses m InFailedTransaction

-- NONE and RESET go back to the login role
abbrev pub with_role_set : Database → Session → Option TheName → Result Session SqlState
with_role_set db s None = Ok (as_role s.login s)
with_role_set db s (Some role) = do
  named ← require (has_role db role) UndefinedObject
  allowed ← require (may_set_role db s.login role) InsufficientPrivilege
  Ok (as_role role s)

-- the block ends with this database committed, and with this role set
abbrev pub with_block_ended : Machine → ℕ → Session → Database → TheName → Machine
with_block_ended m number s db role = record m {
  committed = db;
  holder = released number m.holder;
  sessions = with_session m.sessions number (in_block Outside (as_role role s));
}

-- COMMIT of a failed block acts as ROLLBACK
abbrev pub commit : Machine → ℕ → Session → Block → Transition
commit m number s Outside = warns tag.Commit warning.NoActiveTransaction m
commit m number s (Inside role) = succeeds tag.Commit (with_block_ended m number s (seen m number) s.role)
commit m number s (Failed role) = succeeds tag.Rollback (with_block_ended m number s m.committed role)

-- ROLLBACK brings back the set role of the block's BEGIN
abbrev pub rollback : Machine → ℕ → Session → Block → Transition
rollback m number s Outside = warns tag.Rollback warning.NoActiveTransaction m
rollback m number s (Inside role) = succeeds tag.Rollback (with_block_ended m number s m.committed role)
rollback m number s (Failed role) = succeeds tag.Rollback (with_block_ended m number s m.committed role)

-- ---- statements that concern the database

-- the machine with the database that a writing statement left: outside a block it is committed, inside it is the holder's
abbrev pub with_changes : Machine → ℕ → Block → Database → Machine
with_changes m number Outside db = record m { committed = db }
with_changes m number (Inside role) db = record m { holder = Some (record { session = number; database = db }) }
with_changes m number (Failed role) db = m

-- what a statement answers; its database is applied if the statement is one that writes
abbrev pub applied : Machine → ℕ → Session → Bool → Effect → Transition
applied m number s true e = transition_to e.answer (with_changes m number s.block e.database)
applied m number s false e = transition_to e.answer m

-- ---- one statement

-- what the statement does where the session may execute it, or the refusal
abbrev pub where_admitted : Machine → ℕ → Session → Statement → Result Transition SqlState → Transition
where_admitted m number s x does = transition_or_refusal m number s (may_execute m number s x >>= λ free. does)

-- COMMIT and ROLLBACK are answered always
abbrev pub execute_of_session : Machine → ℕ → Session → SessionStatement → Transition
execute_of_session m number s of_session.Commit = commit m number s s.block
execute_of_session m number s of_session.Rollback = rollback m number s s.block
execute_of_session m number s of_session.Begin = where_admitted m number s (statement.OfSession of_session.Begin) (Ok (begin m number s s.block))
execute_of_session m number s (of_session.SetRole x) = where_admitted m number s (statement.OfSession (of_session.SetRole x))
    (with_role_set (seen m number) s x.role >>= λ changed. Ok (succeeds tag.Set (with_session_changed m number changed)))
execute_of_session m number s of_session.ResetRole = where_admitted m number s (statement.OfSession of_session.ResetRole)
    (Ok (succeeds tag.Reset (with_session_changed m number (as_role s.login s))))

abbrev pub execute_on_database : Machine → ℕ → Session → DatabaseStatement → Transition
execute_on_database m number s x = where_admitted m number s (statement.OnDatabase x)
    (exec (seen m number) (users_of s) x >>= λ e. Ok (applied m number s (changes_database x) e))

-- in an open session: a text that is no statement is refused like a statement
abbrev pub execute_in : Machine → ℕ → Session → Reading → Transition
execute_in m number s (Err code) = refused m number s code
execute_in m number s (Ok (statement.OfSession x)) = execute_of_session m number s x
execute_in m number s (Ok (statement.OnDatabase x)) = execute_on_database m number s x

-- in the session of a number, if it is open
abbrev pub execute : Machine → ℕ → Reading → Option Session → Transition
execute m number reading None = refuses m ConnectionDoesNotExist
execute m number reading (Some s) = execute_in m number s reading

-- ---- one event

-- of a machine that has not stopped
abbrev pub running_transition : Machine → Event Reading → Transition
running_transition m (opens number login) = open_session m number login
running_transition m (closes number) = close_session m number (session_of number m.sessions)
running_transition m (executes number reading) = execute m number reading (session_of number m.sessions)

-- the transition of each event: a stopped machine refuses it, and stays as it is
abbrev pub transition : Machine → Event Reading → Transition
transition m event = if m.stopped then refuses m IoError else running_transition m event
