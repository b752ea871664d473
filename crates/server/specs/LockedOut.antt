-- Which statements the machine refuses for the writer lock, and which ask for it.
use Rattle.std.specs.Prelude.{◌≡◌, Bool, true, false, Some, None, Result, Ok, Err}
use Rattle.std.specs.declared.alloc.AllocError.{AllocError}
use Rattle.sql_types.specs.declared.answer.Answer.TheVariants.{Refused}
use Rattle.sql_types.specs.declared.state.SqlState.TheVariants.{LockNotAvailable}
use Rattle.sql_ast.specs.declared.statement.Statement.{Statement}
use Rattle.abstract_database.specs.Machine.{Event as MachineEvent, opens, executes, closes, Machine, Session, Transition, session_of, is_held_by_other, is_writing, may_execute}
use Rattle.abstract_database.specs.Runs.{TheText, ReadingRelation, IsTransition, MayRunOutOfMemory}

-- the event is the text of a statement in an open session, which may not execute it since another session holds the writer lock
abbrev pub IsLockedOut : ReadingRelation → Machine → MachineEvent TheText → Type 0
IsLockedOut Reads m (opens number login) = ⊥
IsLockedOut Reads m (executes number text) = (m.stopped ≡ false) × ((s : Session) × (session_of number m.sessions ≡ Some s)
    × ((x : Statement) × Reads text (Ok x) × (may_execute m number s x ≡ Err LockNotAvailable)))
IsLockedOut Reads m (closes number) = ⊥

-- the event is a text, and a session of another number holds the writer lock
abbrev pub IsBesideHolder : Machine → MachineEvent TheText → Type 0
IsBesideHolder m (opens number login) = ⊥
IsBesideHolder m (executes number text) = is_held_by_other number m.holder ≡ true
IsBesideHolder m (closes number) = ⊥

-- whether the event is locked out; or an allocation failed, where it may
abbrev pub TellsLockedOut : ReadingRelation → Machine → MachineEvent TheText → Result Bool AllocError → Type 0
TellsLockedOut Reads m e (Ok true) = IsLockedOut Reads m e
TellsLockedOut Reads m e (Ok false) = IsLockedOut Reads m e → ⊥
TellsLockedOut Reads m e (Err error) = MayRunOutOfMemory m e × IsBesideHolder m e

-- the machine refuses such an event with the code of the writer lock
abbrev pub RefusesLockedOut : ReadingRelation → Type 0
RefusesLockedOut Reads = (m : Machine) (e : MachineEvent TheText) → IsLockedOut Reads m e
    → (t : Transition) × IsTransition Reads m e t × (t.answer ≡ Refused LockNotAvailable)

-- the event is the text of a statement that changes the database, in an open session, which may execute it, while nobody holds the writer lock
abbrev pub AsksForLock : ReadingRelation → Machine → MachineEvent TheText → Type 0
AsksForLock Reads m (opens number login) = ⊥
AsksForLock Reads m (executes number text) = (m.stopped ≡ false) × (m.holder ≡ None) × ((s : Session) × (session_of number m.sessions ≡ Some s)
    × ((x : Statement) × Reads text (Ok x) × (is_writing x ≡ true) × (may_execute m number s x ≡ Ok tt)))
AsksForLock Reads m (closes number) = ⊥

-- whether the event asks for the writer lock; or an allocation failed, where it may
abbrev pub TellsAsking : ReadingRelation → Machine → MachineEvent TheText → Result Bool AllocError → Type 0
TellsAsking Reads m e (Ok true) = AsksForLock Reads m e
TellsAsking Reads m e (Ok false) = AsksForLock Reads m e → ⊥
TellsAsking Reads m e (Err error) = MayRunOutOfMemory m e × (m.holder ≡ None)
