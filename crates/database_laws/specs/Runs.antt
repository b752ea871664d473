-- Laws of runs: a text has one transition, runs join and part, and a run over a store is one of the machine.
use Rattle.std.specs.Prelude.{◌≡◌, ◌⊎◌, ◌^◌, ◌-◌, true, List, ◌++◌}
use Rattle.sql_types.specs.declared.answer.Answer.{Answer}
use Rattle.sql_types.specs.declared.answer.Answer.TheVariants.{Refused}
use Rattle.sql_types.specs.declared.state.SqlState.{SqlState}
use Rattle.sql_types.specs.declared.state.SqlState.TheVariants.{OutOfMemory, DiskFull, ProgramLimitExceeded, IoError}
use Rattle.abstract_database.specs.Lists.{Among}
use Rattle.abstract_database.specs.Machine.{Event, Reading, Machine, Transition, transition_to}
use Rattle.abstract_database.specs.Runs.{TheText, ReadingRelation, IsTransition, RanBy, Counts, Rises, HasFailed, Stops, At, Happens}

-- ---- one transition

-- a text is read as one statement, or as one refusal of it
abbrev pub ReadsOnce : ReadingRelation → Type 0
ReadsOnce Reads = (text : TheText) (a b : Reading) → Reads text a → Reads text b → a ≡ b

-- so an event has one transition over a machine
abbrev pub one_transition : ReadingRelation → Type 0
one_transition Reads = ReadsOnce Reads → (m : Machine) (event : Event TheText) (t u : Transition) → IsTransition Reads m event t → IsTransition Reads m event u → t ≡ u

-- one event of the machine, its text as it is read
abbrev pub Next : ReadingRelation → Machine → Event TheText → Answer → Machine → Type 0
Next Reads m event answer after = IsTransition Reads m event (transition_to answer after)

-- and a list of events has one list of answers, and one machine after it
abbrev pub one_run : ReadingRelation → Type 0
one_run Reads = ReadsOnce Reads → (m end other_end : Machine) (events : List (Event TheText)) (answers others : List Answer) →
    RanBy (Next Reads) m events answers end → RanBy (Next Reads) m events others other_end → (answers ≡ others) × (end ≡ other_end)

-- ---- runs join and part

-- a run, and then another, are a run of all their events
abbrev pub RunsJoin : {W E : Type 0} → (W → E → Answer → W → Type 0) → Type 0
RunsJoin {W} {E} Happens = (w middle end : W) (events later : List E) (answers others : List Answer) →
    RanBy Happens w events answers middle → RanBy Happens middle later others end → RanBy Happens w (events ++ later) (answers ++ others) end

-- a run of some events, and then a run of the later ones
pub record IsParted {W E : Type 0} (Happens : W → E → Answer → W → Type 0) (w : W) (events later : List E) (all : List Answer) (end : W) : Type 0 where
  pub middle : W
  pub answers : List Answer
  pub others : List Answer
  pub all_are : all ≡ answers ++ others
  pub before : RanBy Happens w events answers middle
  pub after : RanBy Happens middle later others end

abbrev pub RunsPart : {W E : Type 0} → (W → E → Answer → W → Type 0) → Type 0
RunsPart {W} {E} Happens = (w end : W) (events later : List E) (all : List Answer) → RanBy Happens w (events ++ later) all end → IsParted Happens w events later all end

-- of the machine
abbrev pub machine_runs_join : ReadingRelation → Type 0
machine_runs_join Reads = RunsJoin (Next Reads) × RunsPart (Next Reads)

-- and of a server over a store
abbrev pub store_runs_join : ReadingRelation → Stops → Type 0
store_runs_join Reads Leave = RunsJoin (Happens Reads Leave) × RunsPart (Happens Reads Leave)

-- ---- over a store

-- the answers that may come in place of the machine's own
abbrev pub IsOfStore : Answer → Type 0
IsOfStore answer = (answer ≡ Refused OutOfMemory) ⊎ ((answer ≡ Refused DiskFull) ⊎ ((answer ≡ Refused ProgramLimitExceeded) ⊎ (answer ≡ Refused IoError)))

-- an event over a store with another answer is the machine's own transition, and nothing comes under way by it
abbrev pub stores_make_transitions : ReadingRelation → Stops → Type 0
stores_make_transitions Reads Leave = (w next : At) (event : Event TheText) (answer : Answer) → Happens Reads Leave w event answer next → (IsOfStore answer → ⊥) →
    Next Reads w.standing.machine event answer next.standing.machine × (next.standing.under_way ≡ w.standing.under_way)

-- and so a run with other answers is a run of the machine
abbrev pub stores_run_the_machine : ReadingRelation → Stops → Type 0
stores_run_the_machine Reads Leave = (w end : At) (events : List (Event TheText)) (answers : List Answer) → RanBy (Happens Reads Leave) w events answers end →
    ((a : Answer) → Among a answers → IsOfStore a → ⊥) →
    RanBy (Next Reads) w.standing.machine events answers end.standing.machine × (end.standing.under_way ≡ w.standing.under_way)

-- a refusal for memory, for space or after the last commit number: the statement counts as not issued
pub data CountsAsNotIssued (old new : Counts) : SqlState → Type 0 where
  for_memory : CountsAsNotIssued old new OutOfMemory
  for_space : Rises old.fulls new.fulls → CountsAsNotIssued old new DiskFull
  for_number : old.number ≡ 2 ^ 64 - 1 → CountsAsNotIssued old new ProgramLimitExceeded

-- what a refusal over a store is: the machine's own, one that leaves the machine as it was, or the end of its work
pub data IsRefusedBy (Reads : ReadingRelation) (old new : Counts) (m : Machine) (event : Event TheText) (code : SqlState) (after : Machine) : Type 0 where
  by_machine : Next Reads m event (Refused code) after → IsRefusedBy Reads old new m event code after
  by_store : CountsAsNotIssued old new code → after ≡ m → IsRefusedBy Reads old new m event code after
  by_device : code ≡ IoError → HasFailed old new → after ≡ record m { stopped = true } → IsRefusedBy Reads old new m event code after

abbrev pub refusals_over_a_store : ReadingRelation → Stops → Type 0
refusals_over_a_store Reads Leave = (w next : At) (event : Event TheText) (code : SqlState) → Happens Reads Leave w event (Refused code) next →
    IsRefusedBy Reads w.counts next.counts w.standing.machine event code next.standing.machine
