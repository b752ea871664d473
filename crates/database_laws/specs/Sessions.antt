-- Laws of the machine of sessions: refusals and the writer lock.
use Rattle.std.specs.Prelude.{◌≡◌, ◌⊎◌, ◌==◌, ℕ, nat_eq, true, false, Some, Ok}
use Rattle.sql_types.specs.declared.state.SqlState.{SqlState}
use Rattle.sql_types.specs.declared.answer.Answer.TheVariants as answer
use Rattle.sql_ast.specs.declared.statement.DatabaseStatement.{DatabaseStatement}
use Rattle.abstract_database.specs.Database.{Database}
use Rattle.abstract_database.specs.Statements.{Effect, UserPair, exec}
use Rattle.abstract_database.specs.Machine.{Block, Outside, Inside, Failed, Session, Event, opens, executes, closes, Reading, Machine, Holder, session_of, transition, seen, is_held_by_other}
use Rattle.database_laws.specs.Blocks.{IsOpen, executed}

-- ---- refusals

-- no effect of a statement is a refusal
abbrev pub effects_are_no_refusals : Type 0
effects_are_no_refusals = (db : Database) (pair : UserPair) (x : DatabaseStatement) (e : Effect) → exec db pair x ≡ Ok e → (code : SqlState) → e.answer ≡ answer.Refused code → ⊥

-- ---- other sessions

abbrev pub number_of : {T : Type 0} → Event T → ℕ
number_of (opens number login) = number
number_of (executes number x) = number
number_of (closes number) = number

-- an event of one session leaves each other one: its roles, and its block
abbrev pub other_sessions_stay : Type 0
other_sessions_stay = (m : Machine) (event : Event Reading) (other : ℕ) → nat_eq other (number_of event) ≡ false →
    session_of other (transition m event).machine.sessions ≡ session_of other m.sessions

-- what may become of a block: it ends, or keeps the role that was set at its BEGIN
abbrev pub IsFollowedBy : Block → Block → Type 0
IsFollowedBy Outside b = Unit {0}
IsFollowedBy (Inside role) b = (b ≡ Outside) ⊎ ((b ≡ Inside role) ⊎ (b ≡ Failed role))
IsFollowedBy (Failed role) b = (b ≡ Outside) ⊎ (b ≡ Failed role)

-- a statement of the session leaves its login role, and the role that its block keeps
abbrev pub blocks_keep_their_role : Type 0
blocks_keep_their_role = (m : Machine) (number : ℕ) (s after : Session) (reading : Reading) → IsOpen m number s →
    session_of number (executed m number reading).machine.sessions ≡ Some after → (after.login ≡ s.login) × IsFollowedBy s.block after.block

-- ---- the writer lock

-- while a session holds the writer lock, no event of another changes the committed database, or what the holder has done
abbrev pub only_the_holder_changes : Type 0
only_the_holder_changes = (m : Machine) (event : Event Reading) → is_held_by_other (number_of event) m.holder ≡ true →
    ((transition m event).machine.committed ≡ m.committed) × ((transition m event).machine.holder ≡ m.holder)

-- a session that does not hold the writer lock sees the committed database
abbrev pub others_see_the_committed : Type 0
others_see_the_committed = (m : Machine) (number : ℕ) → is_held_by_other number m.holder ≡ true → seen m number ≡ m.committed

-- what the holder has done, and not committed, shows in no answer to another session
abbrev pub uncommitted_is_not_seen : Type 0
uncommitted_is_not_seen = (m : Machine) (h : Holder) (mine yours : Database) (event : Event Reading) → (h.session == number_of event) ≡ false →
    (transition (record m { holder = Some (record h { database = mine }) }) event).answer ≡ (transition (record m { holder = Some (record h { database = yours }) }) event).answer
