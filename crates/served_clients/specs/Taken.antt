-- Events of many clients that a server took, one after the other.
use Rattle.std.specs.Prelude.{◌≡◌, ℕ, List, [], ◌∷◌}
use Rattle.sql_types.specs.declared.answer.Answer.{Answer}
use Rattle.sql_types.specs.declared.event.Event.{Event}
use Rattle.store.specs.Store.{StoreState, KeepsHistory}
use Rattle.abstract_database.specs.Machine.{Event as MachineEvent}
use Rattle.abstract_database.specs.Runs.{TheText, ReadingRelation, Stops, At, Happens}
use Rattle.server.specs.declared.server.Server.{Server}
use Rattle.server.specs.Standing.{event_of, stops_of, Represents}
use Rattle.server.specs.Runs.{KeepsPast, Steps}

-- an event of a client that a server took, what it was answered, and the moment at which the clock of the server's store stood then
pub record Taken : Type 0 where
  pub client : ℕ
  pub event : Event
  pub answer : Answer
  pub moment : ℕ

-- the events, in the numbers that the server has for sessions
abbrev pub events_taken : List Taken → List (MachineEvent TheText)
events_taken [] = []
events_taken (t ∷ ts) = event_of t.client t.event ∷ events_taken ts

-- their answers
abbrev pub answers_taken : List Taken → List Answer
answers_taken [] = []
answers_taken (t ∷ ts) = t.answer ∷ answers_taken ts

-- ---- steps

-- a server took the event by a step, and the clock of its store then stood at this moment
pub record IsTakenBy {S X : Type 0} (Reads : ReadingRelation) (state : S → StoreState) (old : Server S X) (t : Taken) (new : Server S X) : Type 0 where
  pub history : KeepsHistory (state old.store) (state new.store)
  pub steps : Steps Reads state t.client old t.event t.answer new
  pub clock : (state new.store).time.moment ≡ t.moment

-- a server took these, one after the other, and did nothing else
abbrev pub TakesEach : {S X : Type 0} → ReadingRelation → (S → StoreState) → Server S X → List Taken → Server S X → Type 0
TakesEach Reads state old [] new = new ≡ old
TakesEach {S} {X} Reads state old (t ∷ ts) new = (mid : Server S X) × IsTakenBy Reads state old t mid × TakesEach Reads state mid ts new

-- ---- a run

-- from here they were answered, one after the other, each answer at its moment
abbrev pub RanEach : ReadingRelation → Stops → At → List Taken → At → Type 0
RanEach Reads Leave w [] end = end ≡ w
RanEach Reads Leave w (t ∷ ts) end = (next : At) × (next.moment ≡ t.moment) × Happens Reads Leave w (event_of t.client t.event) t.answer next × RanEach Reads Leave next ts end

-- a run from here to where this server stands, and what is said of moments before it does not grow
abbrev pub RunsEach : {S X : Type 0} → ReadingRelation → (S → StoreState) → Server S X → At → List Taken → Server S X → Type 0
RunsEach Reads state old w ts new = (end : At) × Represents state new end
    × RanEach Reads (stops_of (state new.store).time) w ts end
    × KeepsPast (state old.store).time (state new.store).time
