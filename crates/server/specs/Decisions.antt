-- What is to be done on an event, and what doing it comes to.
use Rattle.std.specs.Prelude.{◌≡◌, ◌⊎◌, ◌≤◌, ◌^◌, ◌-◌, ℕ, false, List, Option, Some, None, IsSome, Result, Ok, Err}
use Rattle.sector_device.specs.Timeline.{LeavesOnly}
use Rattle.sql_types.specs.declared.answer.Answer.{Answer}
use Rattle.store.specs.Records.{Records, Changes, applied}
use Rattle.store.specs.Store.{StoreState, Contents, KeepsHistory, Rose, Commits, stored}
use Rattle.store.specs.Contents.{changed_by_batch}
use Rattle.store.specs.declared.fault.StoreFault.{StoreFault}
use Rattle.store.specs.declared.fault.StoreFault.TheVariants.{Full, Memory, Device, Number}
use Rattle.store.specs.declared.fault.Fault.{Fault}
use Rattle.store.specs.declared.fault.Fault.TheVariants as fault
use Rattle.abstract_database.specs.Database.{Database}
use Rattle.abstract_database.specs.Machine.{Event as MachineEvent, Machine, Holder, Session, Transition, transition_to, session_of, with_session, without_session}
use Rattle.abstract_database.specs.Runs.{TheText, ReadingRelation, IsTransition, MayCallStore, MayRunOutOfMemory, MayCommit}
use Rattle.stored_database.specs.Definitions.{Definitions}
use Rattle.catalogue.specs.Changes.{definitions_after}
use Rattle.catalogue.specs.Executed.{Leads}
use Rattle.transactions.specs.Views.{applied_all}
use Rattle.server.specs.declared.decision.Decision.{Decision}
use Rattle.server.specs.declared.decision.Decision.TheVariants as decision
use Rattle.server.specs.declared.decision.SessionChange.{SessionChange}
use Rattle.server.specs.declared.decision.SessionChange.TheVariants as change
use Rattle.server.specs.declared.writer.Writer.{Writer}
use Rattle.server.specs.declared.server.Server.{Server}
use Rattle.server.specs.Session.{with_block_changed}
use Rattle.server.specs.Writers.{records_under, definitions_under}
use Rattle.server.specs.Standing.{Works, HoldsInBlock, Means}

-- ---- what is to be done

abbrev pub Entries : Type 0
Entries = List (ℕ × Session)

-- the machine of a server that works
abbrev pub machine_at : Database → Option Holder → Entries → Machine
machine_at db holder sessions = record { committed = db; holder = holder; sessions = sessions; stopped = false }

-- the sessions after a change
abbrev pub after_change : SessionChange → Entries → Entries
after_change change.Keep sessions = sessions
after_change (change.Put number s) sessions = with_session sessions number s
after_change (change.Block number c) sessions = with_block_changed c number sessions
after_change (change.Close number) sessions = without_session number sessions

-- a session that is put in place of another is open
abbrev pub Concerns : SessionChange → Entries → Type 0
Concerns change.Keep sessions = Unit {0}
Concerns (change.Put number s) sessions = IsSome (session_of number sessions)
Concerns (change.Block number c) sessions = Unit {0}
Concerns (change.Close number) sessions = Unit {0}

-- the event's own transition leads to this answer and machine
abbrev pub LeadsTo : ReadingRelation → Machine → MachineEvent TheText → Answer → Machine → Type 0
LeadsTo Reads m e answer after = IsTransition Reads m e (transition_to answer after)

-- the decision is what the event asks, and after it a holder is still in a block
abbrev pub Decides : ReadingRelation → Records → Definitions → Option Writer → Database → Option Holder → Entries → MachineEvent TheText → Decision → Type 0
Decides Reads records d writer db holder sessions e (decision.Answer answer c) =
    Concerns c sessions × HoldsInBlock holder (after_change c sessions)
    × LeadsTo Reads (machine_at db holder sessions) e answer (machine_at db holder (after_change c sessions))
Decides Reads records d writer db holder sessions e (decision.Open answer number s) =
    MayRunOutOfMemory (machine_at db holder sessions) e × HoldsInBlock holder (with_session sessions number s)
    × LeadsTo Reads (machine_at db holder sessions) e answer (machine_at db holder (with_session sessions number s))
Decides Reads records d writer db holder sessions e (decision.Release answer c) =
    Concerns c sessions
    × LeadsTo Reads (machine_at db holder sessions) e answer (machine_at db None (after_change c sessions))
-- outside a block nobody holds the writer lock
Decides Reads records d writer db holder sessions e (decision.Commit made) =
    (after : Database) × Leads made.changes records (definitions_after made.schema d) after × (holder ≡ None)
    × MayCommit Reads (machine_at db holder sessions) e × MayCallStore (machine_at db holder sessions) e
    × LeadsTo Reads (machine_at db holder sessions) e made.answer (machine_at after None sessions)
-- the changes are of the records that the holder sees
Decides Reads records d writer db holder sessions e (decision.Hold number made) =
    (after : Database) × Leads made.changes (records_under writer records) (definitions_after made.schema (definitions_under writer d)) after
    × HoldsInBlock (Some (record { session = number; database = after })) sessions × MayCallStore (machine_at db holder sessions) e
    × LeadsTo Reads (machine_at db holder sessions) e made.answer (machine_at db (Some (record { session = number; database = after })) sessions)
Decides Reads records d writer db holder sessions e (decision.CommitWriter answer c) =
    (h : Holder) × (holder ≡ Some h) × Concerns c sessions
    × MayCommit Reads (machine_at db holder sessions) e × MayCallStore (machine_at db holder sessions) e
    × LeadsTo Reads (machine_at db holder sessions) e answer (machine_at h.database None (after_change c sessions))

-- the decision, or why there is none: an allocation or the store's device failed, where they may come
abbrev pub DecidesAt : ReadingRelation → Records → Definitions → Option Writer → Database → Option Holder → Entries → MachineEvent TheText → Result Decision Fault → Type 0
DecidesAt Reads records d writer db holder sessions e (Ok what) = Decides Reads records d writer db holder sessions e what
DecidesAt Reads records d writer db holder sessions e (Err fault.Memory) = MayRunOutOfMemory (machine_at db holder sessions) e
DecidesAt Reads records d writer db holder sessions e (Err fault.Device) =
    MayCallStore (machine_at db holder sessions) e × ((t : Transition) × IsTransition Reads (machine_at db holder sessions) e t)
DecidesAt Reads records d writer db holder sessions e (Err fault.Damaged) = ⊥

-- the fault of an event that was not decided: a damaged record is told as a device that failed
abbrev pub store_fault_of : Fault → StoreFault
store_fault_of fault.Memory = Memory
store_fault_of fault.Device = Device
store_fault_of fault.Damaged = Device

-- ---- what doing it comes to

-- the server works, as this machine
pub record WorksAs {S X : Type 0} (state : S → StoreState) (server : Server S X) (m : Machine) : Type 0 where
  pub sessions : m.sessions ≡ server.sessions.entries
  pub running : m.stopped ≡ false
  pub runs : server.stopped ≡ false
  pub works : Works state server m.committed m.holder

-- a stop in the meantime leaves one of these databases, and one now the second
pub record Passes (db after : Database) (old new : StoreState) : Type 0 where
  pub history : KeepsHistory old new
  pub number : old.number ≤ new.number
  pub during : LeavesOnly (λ x. Means x db ⊎ Means x after) old.time new.time
  pub now : (x : Option Contents) → new.time.left x → Means x after

-- the device failed: a stop leaves one of these databases, in the meantime and now
pub record Fails (db after : Database) (old new : StoreState) : Type 0 where
  pub history : KeepsHistory old new
  pub during : LeavesOnly (λ x. Means x db ⊎ Means x after) old.time new.time
  pub now : (x : Option Contents) → new.time.left x → Means x db ⊎ Means x after
  pub failures : Rose old.failures new.failures
  pub faults : Rose old.faults new.faults

-- an event was answered, or refused for a fault and everything but the store's device is as it was
abbrev pub Performs : {S X : Type 0} → ReadingRelation → (S → StoreState) → Server S X → Server S X → Database → Option Holder → MachineEvent TheText → Result Answer StoreFault → Type 0
Performs Reads state old new db holder e (Ok answer) =
    (after : Machine) × LeadsTo Reads (machine_at db holder old.sessions.entries) e answer after
    × WorksAs state new after × Passes db after.committed (state old.store) (state new.store)
Performs Reads state old new db holder e (Err Memory) =
    MayRunOutOfMemory (machine_at db holder old.sessions.entries) e
    × WorksAs state new (machine_at db holder old.sessions.entries) × Passes db db (state old.store) (state new.store)
Performs Reads state old new db holder e (Err Full) =
    MayCommit Reads (machine_at db holder old.sessions.entries) e × Rose (state old.store).fulls (state new.store).fulls
    × WorksAs state new (machine_at db holder old.sessions.entries) × Passes db db (state old.store) (state new.store)
Performs Reads state old new db holder e (Err Number) =
    MayCommit Reads (machine_at db holder old.sessions.entries) e × ((state old.store).number ≡ 2 ^ 64 - 1)
    × WorksAs state new (machine_at db holder old.sessions.entries) × Passes db db (state old.store) (state new.store)
Performs Reads state old new db holder e (Err Device) =
    (t : Transition) × IsTransition Reads (machine_at db holder old.sessions.entries) e t × MayCallStore (machine_at db holder old.sessions.entries) e
    × (new.sessions.entries ≡ old.sessions.entries) × Fails db t.machine.committed (state old.store) (state new.store)

-- what these lists make of the records, one after the other, is committed
abbrev pub CommitsLists : List Changes → StoreState → StoreState → Type 0
CommitsLists lists old new = old.sound → (cs : Changes) × (applied cs old.map ≡ applied_all lists old.map) × Commits (Ok tt) (changed_by_batch cs (stored old)) old new

-- whatever database and holder the store and the writer lock show
abbrev pub Attempts : {S X : Type 0} → ReadingRelation → (S → StoreState) → Server S X → Server S X → MachineEvent TheText → Result Answer StoreFault → Type 0
Attempts Reads state old new e result = (state old.store).sound → old.stopped ≡ false → (db : Database) (holder : Option Holder) →
    Works state old db holder → Performs Reads state old new db holder e result

-- the same of a decision, on whatever event asks it
abbrev pub Carries : {S X : Type 0} → ReadingRelation → (S → StoreState) → Server S X → Server S X → Decision → Result Answer StoreFault → Type 0
Carries Reads state old new what result = (state old.store).sound → old.stopped ≡ false → (db : Database) (holder : Option Holder) (e : MachineEvent TheText) →
    Works state old db holder → Decides Reads (state old.store).map old.catalogue old.writer db holder old.sessions.entries e what →
    Performs Reads state old new db holder e result
