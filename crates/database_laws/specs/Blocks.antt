-- Laws of blocks: what a refusal leaves, what changes the committed database, what the end of a block leaves.
use Rattle.std.specs.Prelude.{◌≡◌, ◌⊎◌, ℕ, true, false, Some, None, Ok}
use Rattle.sql_types.specs.declared.state.SqlState.{SqlState}
use Rattle.sql_types.specs.declared.state.SqlState.TheVariants.{InFailedTransaction, IoError}
use Rattle.sql_types.specs.declared.answer.Answer.TheVariants as answer
use Rattle.sql_types.specs.declared.tag.Tag.{Tag}
use Rattle.sql_types.specs.declared.tag.Tag.TheVariants as tag
use Rattle.sql_types.specs.declared.warning.Warning.TheVariants as warning
use Rattle.sql_ast.specs.declared.statement.Statement.{Statement}
use Rattle.sql_ast.specs.declared.statement.Statement.TheVariants as statement
use Rattle.sql_ast.specs.declared.statement.DatabaseStatement.{DatabaseStatement}
use Rattle.sql_ast.specs.declared.statement.DatabaseStatement.TheVariants as on_database
use Rattle.sql_ast.specs.declared.statement.RowStatement.TheVariants as over_rows
use Rattle.sql_ast.specs.declared.statement.SessionStatement.TheVariants as of_session
use Rattle.sql_ast.specs.declared.statement.Select.{Select}
use Rattle.abstract_database.specs.Lists.{TheName}
use Rattle.abstract_database.specs.Database.{Database}
use Rattle.abstract_database.specs.Statements.{Effect, exec}
use Rattle.abstract_database.specs.Machine.{Block, Outside, Inside, Failed, Session, Event, opens, executes, closes, Reading, Machine, Transition, transition_to, refuses, succeeds, warns, session_of, users_of, in_block, with_session_changed, seen, changes_database, transition}
use Rattle.abstract_database.specs.Runs.{IsHeldBy}

-- ---- statements of open sessions

-- the session of this number is open in a machine that has not stopped
pub record IsOpen (m : Machine) (number : ℕ) (s : Session) : Type 0 where
  pub running : m.stopped ≡ false
  pub session : session_of number m.sessions ≡ Some s

-- a statement of a session, as it was read
abbrev pub executed : Machine → ℕ → Reading → Transition
executed m number reading = transition m (executes number reading)

abbrev pub IsRefused : Transition → Type 0
IsRefused t = (code : SqlState) × (t.answer ≡ answer.Refused code)

-- ---- refusals

-- a statement that is refused in an open block makes the block failed, and changes nothing else
abbrev pub refused_fails_the_block : Type 0
refused_fails_the_block = (m : Machine) (number : ℕ) (s : Session) (role : TheName) (reading : Reading) → IsOpen m number s → s.block ≡ Inside role →
    IsRefused (executed m number reading) → (executed m number reading).machine ≡ with_session_changed m number (in_block (Failed role) s)

-- a statement of a session whose block is open
abbrev pub IsInBlock : Machine → Event Reading → Type 0
IsInBlock m (opens number login) = ⊥
IsInBlock m (executes number reading) = (s : Session) × IsOpen m number s × ((role : TheName) × (s.block ≡ Inside role))
IsInBlock m (closes number) = ⊥

-- every other event that is refused leaves the machine as it was
abbrev pub refused_elsewhere_changes_nothing : Type 0
refused_elsewhere_changes_nothing = (m : Machine) (event : Event Reading) → (IsInBlock m event → ⊥) → IsRefused (transition m event) → (transition m event).machine ≡ m

-- in a failed block every statement but COMMIT and ROLLBACK is refused
abbrev pub failed_blocks_refuse : Type 0
failed_blocks_refuse = (m : Machine) (number : ℕ) (s : Session) (role : TheName) (x : Statement) → IsOpen m number s → s.block ≡ Failed role →
    (x ≡ (statement.OfSession of_session.Commit) → ⊥) → (x ≡ (statement.OfSession of_session.Rollback) → ⊥) → executed m number (Ok x) ≡ refuses m InFailedTransaction

-- a machine that has stopped refuses every event
abbrev pub stopped_machines_refuse : Type 0
stopped_machines_refuse = (m : Machine) (event : Event Reading) → m.stopped ≡ true → transition m event ≡ refuses m IoError

-- ---- the start of a block

-- BEGIN outside a block starts one that keeps the role that is set, and does nothing else
abbrev pub begin_starts_a_block : Type 0
begin_starts_a_block = (m : Machine) (number : ℕ) (s : Session) → IsOpen m number s → s.block ≡ Outside → (IsRefused (executed m number (Ok (statement.OfSession of_session.Begin))) → ⊥) →
    executed m number (Ok (statement.OfSession of_session.Begin)) ≡ succeeds tag.Begin (with_session_changed m number (in_block (Inside s.role) s))

-- in a block it does nothing but warn
abbrev pub begin_warns_in_a_block : Type 0
begin_warns_in_a_block = (m : Machine) (number : ℕ) (s : Session) (role : TheName) → IsOpen m number s → s.block ≡ Inside role → (IsRefused (executed m number (Ok (statement.OfSession of_session.Begin))) → ⊥) →
    executed m number (Ok (statement.OfSession of_session.Begin)) ≡ warns tag.Begin warning.ActiveTransaction m

-- and so do COMMIT and ROLLBACK outside one
abbrev pub ends_warn_outside : Type 0
ends_warn_outside = (m : Machine) (number : ℕ) (s : Session) → IsOpen m number s → s.block ≡ Outside →
    (executed m number (Ok (statement.OfSession of_session.Commit)) ≡ warns tag.Commit warning.NoActiveTransaction m)
    × (executed m number (Ok (statement.OfSession of_session.Rollback)) ≡ warns tag.Rollback warning.NoActiveTransaction m)

-- ---- what is committed

-- a COMMIT commits what its block made, a statement outside a block what it made
pub data IsCommittedBy (m : Machine) (number : ℕ) (s : Session) (db : Database) : Reading → Type 0 where
  by_commit : (role : TheName) → s.block ≡ Inside role → db ≡ seen m number → IsCommittedBy m number s db (Ok (statement.OfSession of_session.Commit))
  by_statement : (x : DatabaseStatement) (e : Effect) → s.block ≡ Outside → changes_database x ≡ true → exec (seen m number) (users_of s) x ≡ Ok e → db ≡ e.database → IsCommittedBy m number s db (Ok (statement.OnDatabase x))

abbrev pub IsCommittedAt : Machine → Event Reading → Database → Type 0
IsCommittedAt m (opens number login) db = ⊥
IsCommittedAt m (executes number reading) db = (s : Session) × IsOpen m number s × IsCommittedBy m number s db reading
IsCommittedAt m (closes number) db = ⊥

-- nothing else changes the committed database
abbrev pub committed_at_commits : Type 0
committed_at_commits = (m : Machine) (event : Event Reading) → ((transition m event).machine.committed ≡ m.committed) ⊎ IsCommittedAt m event (transition m event).machine.committed

-- what a statement wrote is committed at once outside a block, and else the holder's until the block ends
abbrev pub IsWritten : Machine → ℕ → Block → Database → Machine → Type 0
IsWritten m number Outside db after = after.committed ≡ db
IsWritten m number (Inside role) db after = (after.committed ≡ m.committed) × (after.holder ≡ Some (record { session = number; database = db }))
IsWritten m number (Failed role) db after = ⊥

-- a writing statement that is not refused does what it says over the database that its session sees
abbrev pub writes_take_effect : Type 0
writes_take_effect = (m : Machine) (number : ℕ) (s : Session) (x : DatabaseStatement) → IsOpen m number s → changes_database x ≡ true → (IsRefused (executed m number (Ok (statement.OnDatabase x))) → ⊥) →
    (e : Effect) × (exec (seen m number) (users_of s) x ≡ Ok e) × ((executed m number (Ok (statement.OnDatabase x))).answer ≡ e.answer) × IsWritten m number s.block e.database (executed m number (Ok (statement.OnDatabase x))).machine

-- a SELECT answers over the database that its session sees, and changes nothing
abbrev pub selects_change_nothing : Type 0
selects_change_nothing = (m : Machine) (number : ℕ) (s : Session) (x : Select) → IsOpen m number s → (IsRefused (executed m number (Ok (statement.OnDatabase (on_database.OverRows (over_rows.Select x))))) → ⊥) →
    (e : Effect) × (exec (seen m number) (users_of s) (on_database.OverRows (over_rows.Select x)) ≡ Ok e) × (executed m number (Ok (statement.OnDatabase (on_database.OverRows (over_rows.Select x)))) ≡ transition_to e.answer m)

-- ---- the end of a block

-- the block has ended with this answer: this database is committed, the session does not hold the writer lock, and has this role set
pub record HasEnded (number : ℕ) (s : Session) (t : Tag) (db : Database) (role : TheName) (after : Transition) : Type 0 where
  pub answer : after.answer ≡ answer.Done t None None
  pub committed : after.machine.committed ≡ db
  pub lock : IsHeldBy number after.machine.holder → ⊥
  pub session : session_of number after.machine.sessions ≡ Some (record { login = s.login; role = role; block = Outside })

-- COMMIT of an open block commits what its session sees
abbrev pub commit_commits : Type 0
commit_commits = (m : Machine) (number : ℕ) (s : Session) (role : TheName) → IsOpen m number s → s.block ≡ Inside role →
    HasEnded number s tag.Commit (seen m number) s.role (executed m number (Ok (statement.OfSession of_session.Commit)))

-- COMMIT of a failed block rolls it back
abbrev pub failed_commit_rolls_back : Type 0
failed_commit_rolls_back = (m : Machine) (number : ℕ) (s : Session) (role : TheName) → IsOpen m number s → s.block ≡ Failed role →
    HasEnded number s tag.Rollback m.committed role (executed m number (Ok (statement.OfSession of_session.Commit)))

-- and ROLLBACK each block: the role is set that was set at its BEGIN
abbrev pub rollback_rolls_back : Type 0
rollback_rolls_back = (m : Machine) (number : ℕ) (s : Session) (role : TheName) → IsOpen m number s → (s.block ≡ Inside role) ⊎ (s.block ≡ Failed role) →
    HasEnded number s tag.Rollback m.committed role (executed m number (Ok (statement.OfSession of_session.Rollback)))
