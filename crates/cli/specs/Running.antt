-- The run of a script over a store, or over a new database in memory.
use Rattle.std.specs.Prelude.{◌≡◌, ◌≢◌, ◌⊎◌, ℕ, false, List, [], take, Err}
use Rattle.sql_types.specs.declared.answer.Answer.{Answer}
use Rattle.sql_types.specs.declared.answer.Answer.TheVariants.{Refused}
use Rattle.sql_types.specs.declared.event.Event.{Event}
use Rattle.sql_types.specs.declared.state.SqlState.TheVariants.{OutOfMemory}
use Rattle.recovery.specs.declared.fault.OpeningFault.{OpeningFault}
use Rattle.recovery.specs.declared.fault.OpeningFault.TheVariants.{Read}
use Rattle.store.specs.declared.fault.Fault.TheVariants.{Damaged}
use Rattle.store.specs.declared.memory.MemStore.{MemStore}
use Rattle.store.specs.Memory.{new_state}
use Rattle.store.specs.MemoryStore.{memory_store_state}
use Rattle.store.specs.Store.{StoreState, stored}
use Rattle.abstract_database.specs.Lists.{TheName}
use Rattle.abstract_database.specs.Database.{Database, new_database}
use Rattle.abstract_database.specs.Machine.{Event as MachineEvent, Machine, machine_over, transition_to}
use Rattle.abstract_database.specs.Runs.{TheText, ReadingRelation, IsTransition, MayRunOutOfMemory, RanBy}
use Rattle.stored_database.specs.BothRecordFormats.{Stands}
use Rattle.server.specs.declared.server.Server.{Server}
use Rattle.server.specs.Standing.{Represents, at_start, events_of}
use Rattle.recovery.specs.Openings.{HasLooked, HasOpeningCause, IsOpened, KeepsDatabase, OnlyLooks}
use Rattle.wire.specs.declared.script_run.ScriptEnd.{ScriptEnd}
use Rattle.wire.specs.Closing.{LeavesNoSession}
use Rattle.wire.specs.declared.script_run.ScriptEnd.TheVariants as end
use Rattle.wire.specs.declared.sink.Sink.{Ghosts as SinkGhosts}
use Rattle.wire.specs.SessionNames.{Names}
use Rattle.wire.specs.ScriptRun.{Known, Requests, Writes, EndsAfter, IsScriptRun, lines_of}
use Rattle.cli.specs.declared.fault.CommandFault.TheVariants as fault
use Rattle.cli.specs.declared.ending.Ending.{Ending}
use Rattle.cli.specs.declared.ending.Ending.TheVariants as ending
use Rattle.cli.specs.Ending.{ending_of}
use Rattle.cli.specs.Faults.{of_records}

-- ---- over a store

-- No server was opened, and nothing was told. Records in record format 2 were only read, and damaged ones;
-- of others a stop leaves the database that was there. Contents that stand for a database are not damaged
pub record IsNotOpened {S K : Type 0} (state : S → StoreState) (store : S) (before : K) (e : Ending) (left : S) (after : K) : Type 0 where
  pub fault : OpeningFault
  pub looked : OnlyLooks (state store).record_format (Err fault) → HasLooked (Err fault) (state store) (state left)
  pub same : (state store).sound → (state store).has_failed ≡ false → (db : Database) → Stands (stored (state store)) db
      → KeepsDatabase db (Err fault) (state store) (state left)
  pub cause : (state store).sound → HasOpeningCause fault (state store) (state left)
  pub damaged : (state store).sound → (db : Database) → Stands (stored (state store)) db → fault ≢ Read Damaged
  pub unwritten : after ≡ before
  pub ends : e ≡ ending.Fault (of_records fault)

-- the lines of a script were run from one server to another
pub record RunsFrom {S X K : Type 0} (Reads : ReadingRelation) (state : S → StoreState) (k : SinkGhosts K) (opened : Server S X) (script : List ℕ) (before : K) (e : Ending) (last : Server S X) (after : K) : Type 0 where
  pub end : ScriptEnd
  pub ran : IsScriptRun Reads state k opened (lines_of script) before end last after
  pub ends : e ≡ ending_of end

-- a server was opened over the database that the contents of the store stand for, and the script was run from there; its store is
-- left, and no session is open, unless the server has stopped
pub record IsRun (X : Type 0) {S K : Type 0} (Reads : ReadingRelation) (state : S → StoreState) (k : SinkGhosts K) (store : S) (script : List ℕ) (before : K) (e : Ending) (left : S) (after : K) : Type 0 where
  pub opened : Server S X
  pub last : Server S X
  pub is_opened : (state store).sound → IsOpened state (stored (state store)) opened
  pub runs : RunsFrom Reads state k opened script before e last after
  pub closed : (state store).sound → LeavesNoSession state last
  pub left_is : left ≡ last.store

-- no server was opened, or the script was run
abbrev pub RunsOver : (X : Type 0) {S K : Type 0} → ReadingRelation → (S → StoreState) → SinkGhosts K → S → List ℕ → K → Ending → S → K → Type 0
RunsOver X Reads state k store script before e left after = IsNotOpened state store before e left after ⊎ IsRun X Reads state k store script before e left after

-- ---- over a new database in memory

-- memory was refused before the first line, and nothing was told
abbrev pub IsNotRun : {K : Type 0} → K → Ending → K → Type 0
IsNotRun before e after = (e ≡ ending.Fault fault.Memory) × (after ≡ before)

-- over memory an event is answered by the session machine, or refused memory where an allocation may fail
pub data IsAnswered (Reads : ReadingRelation) (m : Machine) (event : MachineEvent TheText) (answer : Answer) (after : Machine) : Type 0 where
  by_machine : IsTransition Reads m event (transition_to answer after) → IsAnswered Reads m event answer after
  refused_memory : answer ≡ Refused OutOfMemory → after ≡ m → MayRunOutOfMemory m event → IsAnswered Reads m event answer after

-- the first lines of a script request these events, one after the other the session machine over the new database of this
-- administrator answers them, and their answers were printed. The machine never stops
pub record PrintsRun (Reads : ReadingRelation) (admin : TheName) (script : List ℕ) (before : Known) (e : ScriptEnd) (after : Known) : Type 0 where
  pub count : ℕ
  pub events : List Event
  pub answers : List Answer
  pub names : Names
  pub last : Machine
  pub requested : Requests [] (take count (lines_of script)) events names
  pub ran : RanBy (IsAnswered Reads) (machine_over (new_database admin)) (events_of 0 events) answers last
  pub printed : Writes e before answers after
  pub ends : EndsAfter (lines_of script) count e
  pub works : e ≢ end.Stopped

-- the script was run from a server that has just been opened over the new database of this administrator, and no session is open
-- after it
pub record IsRunOverNew (X : Type 0) {K : Type 0} (Reads : ReadingRelation) (k : SinkGhosts K) (admin : TheName) (script : List ℕ) (before : K) (e : Ending) (after : K) : Type 0 where
  pub opened : Server MemStore X
  pub last : Server MemStore X
  pub represents : Represents memory_store_state opened (at_start (new_state admin) (new_database admin))
  pub runs : RunsFrom Reads memory_store_state k opened script before e last after
  pub prints : PrintsRun Reads admin script (k.held before) runs.end (k.held after)
  pub closed : LeavesNoSession memory_store_state last

abbrev pub RunsOverNew : Type 0 → {K : Type 0} → ReadingRelation → SinkGhosts K → TheName → List ℕ → K → Ending → K → Type 0
RunsOverNew X Reads k admin script before e after = IsNotRun before e after ⊎ IsRunOverNew X Reads k admin script before e after
