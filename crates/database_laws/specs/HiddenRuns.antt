-- Machines that look alike to a session, whatever rows are hidden from all that it may act as, and the events that may be answered by such rows.
use Rattle.std.specs.Prelude.{◌≡◌, ◌⊎◌, ◌==◌, ◌||◌, ◌&&◌, not, ℕ, Bool, true, false, bytes_eq, is_none, Option, Some, None, Ok}
use Rattle.std.specs.List.{list_all}
use Rattle.sql_types.specs.declared.state.SqlState.{SqlState}
use Rattle.sql_types.specs.declared.state.SqlState.TheVariants.{UniqueViolation, IoError}
use Rattle.sql_types.specs.declared.answer.Answer.{Answer}
use Rattle.sql_types.specs.declared.answer.Answer.TheVariants as answer
use Rattle.sql_ast.specs.declared.policy.PolicyCommand.{PolicyCommand}
use Rattle.sql_ast.specs.declared.policy.PolicyCommand.TheVariants as command
use Rattle.sql_ast.specs.declared.statement.Statement.TheVariants as statement
use Rattle.sql_ast.specs.declared.statement.DatabaseStatement.TheVariants as on_database
use Rattle.sql_ast.specs.declared.statement.DefiningStatement.{DefiningStatement}
use Rattle.sql_ast.specs.declared.statement.DefiningStatement.TheVariants as defining
use Rattle.sql_ast.specs.declared.statement.RowStatement.{RowStatement}
use Rattle.abstract_database.specs.Lists.{TheName}
use Rattle.abstract_database.specs.Database.{Database, without_rows}
use Rattle.abstract_database.specs.Roles.{may_set_role}
use Rattle.abstract_database.specs.Guards.{is_for_role}
use Rattle.abstract_database.specs.Statements.{UserPair, as_seen, Checked, checked}
use Rattle.abstract_database.specs.Machine.{Session, Event, executes, Reading, Machine, Holder, session_of, users_of, seen, transition, Block, Inside, Failed, Outside}
use Rattle.abstract_database.specs.Runs.{Counts, HasFailed}
use Rattle.database_laws.specs.Blocks.{IsRefused}
use Rattle.database_laws.specs.Invariants.{HoldsOfHolder, IsSound}
use Rattle.database_laws.specs.OnePolicy.{target_of}
use Rattle.database_laws.specs.Runs.{CountsAsNotIssued}
use Rattle.database_laws.specs.Worlds.{SameApparentRows, is_told}

-- ---- the pairs of users as which sessions act, and databases that look alike to them

-- one of these pairs: a login role, and a role that it may set
abbrev pub MayActAs : Database → (UserPair → Bool) → UserPair → Type 0
MayActAs db pairs pair = (pairs pair ≡ true) × (may_set_role db pair.session pair.current ≡ true)

-- the same definitions, and to each of the pairs the same rows that say something
pub record SameApparentRowsForPairs (pairs : UserPair → Bool) (d e : Database) : Type 0 where
  pub definitions : without_rows d ≡ without_rows e
  pub rows : (pair : UserPair) → MayActAs d pairs pair → SameApparentRows (as_seen pair d) d e

-- ---- machines

abbrev pub holds_lock : ℕ → Option Holder → Bool
holds_lock number None = false
holds_lock number (Some h) = h.session == number

-- both users are this one, as when a session is opened, or its role is reset
abbrev pub as_itself : TheName → UserPair
as_itself name = record { current = name; session = name }

-- the role that a ROLLBACK brings back
abbrev pub RollsBackWithin : (UserPair → Bool) → TheName → Block → Type 0
RollsBackWithin pairs login Outside = Unit {0}
RollsBackWithin pairs login (Inside role) = pairs (record { current = role; session = login }) ≡ true
RollsBackWithin pairs login (Failed role) = pairs (record { current = role; session = login }) ≡ true

-- an open session acts as one of these pairs, and does once its role is reset, or its block rolled back
pub record ActsWithin (pairs : UserPair → Bool) (s : Session) : Type 0 where
  pub now : pairs (users_of s) ≡ true
  pub reset : pairs (as_itself s.login) ≡ true
  pub rolled_back : RollsBackWithin pairs s.login s.block

-- over both machines the session of this number is the same, it acts as these pairs alone, and what it sees, and what is committed,
-- looks alike to all of them
pub record MachinesAlikeForSession (number : ℕ) (pairs : UserPair → Bool) (m k : Machine) : Type 0 where
  pub session : session_of number m.sessions ≡ session_of number k.sessions
  pub opened_for : (s : Session) → session_of number m.sessions ≡ Some s → ActsWithin pairs s
  pub stopped : m.stopped ≡ k.stopped
  pub lock : holds_lock number m.holder ≡ holds_lock number k.holder
  pub committed : SameApparentRowsForPairs pairs m.committed k.committed
  pub seen : SameApparentRowsForPairs pairs (seen m number) (seen k number)

-- what is committed, and what the holder of the writer lock has done, is sound
pub record AreSound (m : Machine) : Type 0 where
  pub committed : IsSound m.committed
  pub holder : HoldsOfHolder IsSound m.holder

-- ---- events

abbrev pub answer_to : Machine → Event Reading → Answer
answer_to m event = (transition m event).answer

abbrev pub after : Machine → Event Reading → Machine
after m event = (transition m event).machine

-- ---- exceptions

abbrev pub is_for_all_commands : PolicyCommand → Bool
is_for_all_commands command.All = true
is_for_all_commands (command.Only a) = false

-- whether each policy of the table that is for the role is for all commands, and has one condition for rows that stand and for new ones
abbrev pub has_policies_for_all : Database → TheName → TheName → Bool
has_policies_for_all db role table = list_all (λ p. not (bytes_eq p.table table && is_for_role db.memberships role p.roles) || (is_for_all_commands p.command && is_none p.check)) db.policies

abbrev pub of_target : Database → TheName → Option TheName → Bool
of_target db role None = true
of_target db role (Some table) = has_policies_for_all db role table

-- whether a statement of the role does what it does by rows that it sees, taken keys aside: it is a SELECT or an INSERT, it reads a
-- column, or the policies of its table that are for the role are for all commands
abbrev pub goes_by_visible : Database → TheName → RowStatement → Bool
goes_by_visible db role x = is_told x || of_target db role (target_of x)

-- whether a statement may bring to light what was hidden: it changes policies, row security, or who is in which role
abbrev pub may_unhide : DefiningStatement → Bool
may_unhide (defining.CreateRole s) = false
may_unhide (defining.DropRole s) = false
may_unhide (defining.GrantRole s) = true
may_unhide (defining.RevokeRole s) = true
may_unhide (defining.CreateTable s) = false
may_unhide (defining.DropTable s) = false
may_unhide (defining.AlterTable s) = true
may_unhide (defining.CreatePolicy s) = true
may_unhide (defining.DropPolicy s) = true
may_unhide (defining.Grant s) = false
may_unhide (defining.Revoke s) = false

-- both answers are one refusal
abbrev pub AreOneRefusal : Answer → Answer → Type 0
AreOneRefusal a b = (code : SqlState) × (a ≡ answer.Refused code) × (b ≡ answer.Refused code)

-- one of two answers, and not the other, is the refusal with this code
abbrev pub TellsAlone : SqlState → Answer → Answer → Type 0
TellsAlone code a b = ((a ≡ answer.Refused code) × (b ≡ answer.Refused code → ⊥)) ⊎ ((b ≡ answer.Refused code) × (a ≡ answer.Refused code → ⊥))

-- an event that may be answered by rows that are hidden
pub data IsException (number : ℕ) (m k : Machine) : Event Reading → Type 0 where
  -- over one of the machines, and not over the other, the key of a new row stands already
  by_key : (event : Event Reading) → TellsAlone UniqueViolation (answer_to m event) (answer_to k event) → IsException number m k event
  -- an UPDATE or DELETE that reads no column passes its checks, and not all policies of its table that are for the set role are FOR
  -- ALL without WITH CHECK
  by_count : (s : Session) (x : RowStatement) (c : Checked) → session_of number m.sessions ≡ Some s → goes_by_visible (seen m number) s.role x ≡ false →
      checked (seen m number) (as_seen (users_of s) (seen m number)) (on_database.OverRows x) ≡ Ok c →
      IsException number m k (executes number (Ok (statement.OnDatabase (on_database.OverRows x))))
  -- a statement that may bring to light what was hidden is carried out
  by_definition : (x : DefiningStatement) → may_unhide x ≡ true → (IsRefused (transition m (executes number (Ok (statement.OnDatabase (on_database.Defining x))))) → ⊥) →
      IsException number m k (executes number (Ok (statement.OnDatabase (on_database.Defining x))))

-- a refusal that comes in place of the machine's own answer: for memory, for space, after the last commit number, or of the device
pub data IsInPlace (old new : Counts) (a : Answer) : Type 0 where
  not_issued : (code : SqlState) → a ≡ answer.Refused code → CountsAsNotIssued old new code → IsInPlace old new a
  failed : a ≡ answer.Refused IoError → HasFailed old new → IsInPlace old new a
