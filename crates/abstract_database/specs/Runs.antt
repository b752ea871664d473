-- Runs: the answers to events, one after the other, what may come in place of the machine's own answer, and over a store
-- what a stop leaves.
use Rattle.std.specs.Prelude.{◌≡◌, ◌⊎◌, ◌<◌, ◌≤◌, ◌^◌, ◌-◌, ℕ, true, false, List, [], ◌∷◌, length, Option, Some, None, IsSome, Ok}
use Rattle.sql_types.specs.declared.state.SqlState.TheVariants.{OutOfMemory, DiskFull, ProgramLimitExceeded, IoError}
use Rattle.sql_types.specs.declared.answer.Answer.{Answer}
use Rattle.sql_types.specs.declared.answer.Answer.TheVariants.{Refused}
use Rattle.sql_ast.specs.declared.statement.Statement.{Statement}
use Rattle.sql_ast.specs.declared.statement.Statement.TheVariants as statement
use Rattle.sql_ast.specs.declared.statement.SessionStatement.TheVariants as of_session
use Rattle.abstract_database.specs.Database.{Database}
use Rattle.abstract_database.specs.Machine.{Block, Outside, Inside, Failed, Session, Event, opens, executes, closes, Reading, Machine, Holder, Transition, transition_to, client_of, own_sessions, session_of, is_writing, transition}

-- ---- reading

-- the text of a statement, as its bytes
abbrev pub TheText : Type 0
TheText = List ℕ

-- which readings a text may have: the relation of the parser
abbrev pub ReadingRelation : Type 1
ReadingRelation = TheText → Reading → Type 0

-- a text is read in an open session of a machine that has not stopped
abbrev pub MayRead : Machine → ℕ → Type 0
MayRead m number = (m.stopped ≡ false) × IsSome (session_of number m.sessions)

-- the event with its text as it is read; a text that is not read may be anything
abbrev pub IsReadAs : ReadingRelation → Machine → Event TheText → Event Reading → Type 0
IsReadAs Reads m (opens number login) event = event ≡ opens number login
IsReadAs Reads m (closes number) event = event ≡ closes number
IsReadAs Reads m (executes number text) event = (reading : Reading) × (event ≡ executes number reading) × (MayRead m number → Reads text reading)

-- the machine's own transition on an event
pub record IsTransition (Reads : ReadingRelation) (m : Machine) (event : Event TheText) (t : Transition) : Type 0 where
  pub as_read : Event Reading
  pub read : IsReadAs Reads m event as_read
  pub is : t ≡ transition m as_read

-- ---- what a store counts

-- the number of its last commit, how often it was full, how often its device failed it, and how often the device itself failed
pub record Counts : Type 0 where
  pub number : ℕ
  pub fulls : ℕ
  pub failures : ℕ
  pub faults : ℕ

-- a count rises, or stands at its greatest
abbrev pub Rises : ℕ → ℕ → Type 0
Rises old new = (old < new) ⊎ (old ≡ 2 ^ 64 - 1)

-- no count falls
pub record NoneFalls (old new : Counts) : Type 0 where
  pub number : old.number ≤ new.number
  pub fulls : old.fulls ≤ new.fulls
  pub failures : old.failures ≤ new.failures
  pub faults : old.faults ≤ new.faults

-- the device failed
pub record HasFailed (old new : Counts) : Type 0 where
  pub failures : Rises old.failures new.failures
  pub faults : Rises old.faults new.faults

-- ---- what may come in place of the machine's own answer

-- a statement in an open session calls the store, where its text is not too long
abbrev pub MayCallStore : Machine → Event TheText → Type 0
MayCallStore m (opens number login) = ⊥
MayCallStore m (executes number text) = MayRead m number × (length text ≤ 65536)
MayCallStore m (closes number) = ⊥

-- an allocation may fail there, and for an open that is not refused before anything is made
abbrev pub MayRunOutOfMemory : Machine → Event TheText → Type 0
MayRunOutOfMemory m (opens number login) = (m.stopped ≡ false) × (session_of number m.sessions ≡ None) × (length (own_sessions (client_of number) m.sessions) < 256)
MayRunOutOfMemory m (executes number text) = MayCallStore m (executes number text)
MayRunOutOfMemory m (closes number) = ⊥

abbrev pub IsHeldBy : ℕ → Option Holder → Type 0
IsHeldBy number None = ⊥
IsHeldBy number (Some h) = h.session ≡ number

-- whether a statement outside a block may change the durable database, or COMMIT of the holder
abbrev pub CommitsAt : Machine → ℕ → Block → Statement → Type 0
CommitsAt m number Outside x = is_writing x ≡ true
CommitsAt m number (Inside role) x = (x ≡ (statement.OfSession of_session.Commit)) × IsHeldBy number m.holder
CommitsAt m number (Failed role) x = ⊥

abbrev pub Commits : ReadingRelation → Machine → ℕ → TheText → Option Session → Type 0
Commits Reads m number text None = ⊥
Commits Reads m number text (Some s) = (x : Statement) × Reads text (Ok x) × CommitsAt m number s.block x

abbrev pub MayCommit : ReadingRelation → Machine → Event TheText → Type 0
MayCommit Reads m (executes number text) = (m.stopped ≡ false) × Commits Reads m number text (session_of number m.sessions)
MayCommit Reads m (opens number login) = ⊥
MayCommit Reads m (closes number) = ⊥

-- an event over a store that counted thus before and after: the machine's own transition, or in its place the refusal of
-- memory, space, commit number or device, each only where it may come
pub data IsStep (Reads : ReadingRelation) (old new : Counts) (m : Machine) (event : Event TheText) (answer : Answer) (after : Machine) : Type 0 where
  by_transition : IsTransition Reads m event (transition_to answer after) → IsStep Reads old new m event answer after
  for_memory : answer ≡ Refused OutOfMemory → after ≡ m → MayRunOutOfMemory m event → IsStep Reads old new m event answer after
  for_space : answer ≡ Refused DiskFull → after ≡ m → MayCommit Reads m event → Rises old.fulls new.fulls → IsStep Reads old new m event answer after
  for_number : answer ≡ Refused ProgramLimitExceeded → after ≡ m → MayCommit Reads m event → old.number ≡ 2 ^ 64 - 1 → IsStep Reads old new m event answer after
  for_device : (t : Transition) → IsTransition Reads m event t → MayCallStore m event → answer ≡ Refused IoError → after ≡ record m { stopped = true } → HasFailed old new →
      IsStep Reads old new m event answer after

-- ---- runs

-- one answer to each event, in order, each by this fact of what was before the event and what is after it
abbrev pub RanBy : {W E : Type 0} → (W → E → Answer → W → Type 0) → W → List E → List Answer → W → Type 0
RanBy Happens w [] [] end = end ≡ w
RanBy {W} Happens w (event ∷ events) (answer ∷ answers) end = (next : W) × Happens w event answer next × RanBy Happens next events answers end
RanBy Happens w [] (answer ∷ answers) end = ⊥
RanBy Happens w (event ∷ events) [] end = ⊥

-- ---- runs over a store

-- the machine, and once the device has failed the database that would have come of the event in which it did
pub record Standing : Type 0 where
  pub machine : Machine
  pub under_way : Option Database

-- a stop now leaves the committed database, or the one under way
abbrev pub IsFoundAt : Standing → Database → Type 0
IsFoundAt s db = (db ≡ s.machine.committed) ⊎ (s.under_way ≡ Some db)

-- the database that an event itself brings: none where it was refused memory, space or a commit number
abbrev pub IsBrought : {Reads : ReadingRelation} {old new : Counts} {m : Machine} {event : Event TheText} {answer : Answer} {after : Machine} → IsStep Reads old new m event answer after → Database → Type 0
IsBrought {after = after} (by_transition is) db = db ≡ after.committed
IsBrought (for_memory a b may) db = ⊥
IsBrought (for_space a b may rises) db = ⊥
IsBrought (for_number a b may greatest) db = ⊥
IsBrought (for_device t is may a b failed) db = db ≡ t.machine.committed

-- what is under way after the event
abbrev pub under_way_after : {Reads : ReadingRelation} {old new : Counts} {m : Machine} {event : Event TheText} {answer : Answer} {after : Machine} → IsStep Reads old new m event answer after → Option Database → Option Database
under_way_after (by_transition is) was = was
under_way_after (for_memory a b may) was = was
under_way_after (for_space a b may rises) was = was
under_way_after (for_number a b may greatest) was = was
under_way_after (for_device t is may a b failed) was = Some t.machine.committed

-- what is said of stops: whatever one leaves from this moment to that is a database of which this holds
abbrev pub Stops : Type 1
Stops = ℕ → ℕ → (Database → Type 0) → Type 0

-- a server over a store between two events: what the store has counted, the moment, and where the server stands
pub record At : Type 0 where
  pub counts : Counts
  pub moment : ℕ
  pub standing : Standing

-- one event over a store, and what a stop leaves: during it the database before it or the one that it brings, after it
-- the committed one, or where the device failed one of both
pub record Happens (Reads : ReadingRelation) (Leave : Stops) (w : At) (event : Event TheText) (answer : Answer) (next : At) : Type 0 where
  pub counts : NoneFalls w.counts next.counts
  pub step : IsStep Reads w.counts next.counts w.standing.machine event answer next.standing.machine
  pub under_way : next.standing.under_way ≡ under_way_after step w.standing.under_way
  pub later : w.moment ≤ next.moment
  pub during : Leave w.moment next.moment (λ db. IsFoundAt w.standing db ⊎ IsBrought step db)
  pub now : Leave next.moment next.moment (IsFoundAt next.standing)
