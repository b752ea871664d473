-- A stop at any moment of a life, and where the next life goes on from.
use Rattle.std.specs.Prelude.{◌≡◌, ◌≢◌, ◌⊎◌, ◌≤◌, ◌<◌, ◌↔◌, ℕ, List, [], ◌∷◌, ◌++◌, length, Option, None, Some}
use Rattle.sector_device.specs.Timeline.{Timeline}
use Rattle.sql_types.specs.declared.answer.Answer.{Answer}
use Rattle.store.specs.Store.{Contents}
use Rattle.abstract_database.specs.Database.{Database}
use Rattle.abstract_database.specs.Machine.{Event as MachineEvent}
use Rattle.abstract_database.specs.Runs.{TheText, ReadingRelation, Standing, At, IsFoundAt, IsBrought, Happens}
use Rattle.server.specs.Standing.{Means, event_of, stops_of}
use Rattle.databases.specs.Lives.{ClientEvent, RanAt, IsLife}

-- ---- what a stop leaves

-- a stop at this moment may leave it: it is among what a stop leaves in every span of time that has the moment in it
abbrev pub IsLeftAt : {X : Type 0} → Timeline X → ℕ → X → Type 0
IsLeftAt t moment x = (a b : ℕ) → a ≤ moment → moment ≤ b → t.stops a b x

-- a stop at this moment may leave this database
abbrev pub LeavesAt : Timeline (Option Contents) → ℕ → Database → Type 0
LeavesAt t moment db = (x : Option Contents) × IsLeftAt t moment x × Means x db

-- what a stop leaves: one at this moment, or one after all that was done
abbrev pub is_left_by : {X : Type 0} → Option ℕ → Timeline X → X → Type 0
is_left_by None t x = t.left x
is_left_by (Some moment) t x = IsLeftAt t moment x

-- the moment of a stop is one from the first timeline to the second
abbrev pub IsWithin : {X : Type 0} → Option ℕ → Timeline X → Timeline X → Type 0
IsWithin None old new = Unit {0}
IsWithin (Some moment) old new = (old.moment ≤ moment) × (moment ≤ new.moment)

-- ---- where it leads

-- each of these moments is one up to the stop
abbrev pub AreUpTo : ℕ → List ℕ → Type 0
AreUpTo stop [] = Unit {0}
AreUpTo stop (moment ∷ moments) = (moment ≤ stop) × AreUpTo stop moments

-- each of them comes after it
abbrev pub AreAfter : ℕ → List ℕ → Type 0
AreAfter stop [] = Unit {0}
AreAfter stop (moment ∷ moments) = (stop < moment) × AreAfter stop moments

-- Where a stop leads that came here or later, before the first of the other events was answered. At the very moment at which the last
-- event was answered nothing is under way: the next life goes on from here alone. Later the first of the others is under way: the
-- next life goes on from here, or from what that event would bring, and from nothing else.
pub data GoesOnFrom (Reads : ReadingRelation) (time : Timeline (Option Contents)) (stop : ℕ) (here : At) (others : List ClientEvent) (rest : List Answer) (after : List ℕ) (next : Standing) : Type 0 where
  between : here.moment ≡ stop → next ≡ here.standing → GoesOnFrom Reads time stop here others rest after next
  during : (event : ClientEvent) (events : List ClientEvent) (answer : Answer) (told : List Answer) (following : At) (moments : List ℕ)
      → others ≡ event ∷ events → rest ≡ answer ∷ told → after ≡ following.moment ∷ moments
      → (happens : Happens Reads (stops_of time) here (event_of event.client event.event) answer following)
      → here.moment < stop
      → next.machine ≡ here.standing.machine
      → ((db : Database) → IsFoundAt next db ↔ (IsFoundAt here.standing db ⊎ IsBrought happens.step db))
      → GoesOnFrom Reads time stop here others rest after next

-- A stop among events. Done are those whose answers were given up to the moment of the stop, and no others; of the others the first
-- was under way, if any was.
pub record StopsIn (Reads : ReadingRelation) (time : Timeline (Option Contents)) (begin : At) (stop : ℕ) (events : List ClientEvent) (told : List Answer) (moments : List ℕ) (next : Standing) : Type 0 where
  pub done : List ClientEvent
  pub others : List ClientEvent
  pub events_are : events ≡ done ++ others
  pub answers : List Answer
  pub rest : List Answer
  pub told_are : told ≡ answers ++ rest
  pub before : List ℕ
  pub after : List ℕ
  pub moments_are : moments ≡ before ++ after
  pub here : At
  pub ran : RanAt Reads (stops_of time) begin done answers before here
  pub ended : AreUpTo stop before
  pub not_ended : AreAfter stop after
  pub leads : GoesOnFrom Reads time stop here others rest after next

-- a stop before the life begins leaves what the last life may have left, and any other stops its events
abbrev pub StopsAt : {Reads : ReadingRelation} (last : Standing) {events : List ClientEvent} {told : List Answer} {moments : List ℕ} {old new : Timeline (Option Contents)}
    → IsLife Reads last events told moments old new → Option ℕ → Standing → Type 0
StopsAt last life None next = next ≡ life.end.standing
StopsAt {Reads} last {events} {told} {moments} {new = new} life (Some stop) next =
    ((stop < life.begin.moment) × (next ≡ last))
    ⊎ ((life.begin.moment ≤ stop) × StopsIn Reads new life.begin stop events told moments next)

-- the stop came after the life began, and the event at this place was done then
abbrev pub IsDoneAt : {Reads : ReadingRelation} {last : Standing} {events : List ClientEvent} {told : List Answer} {moments : List ℕ} {old new : Timeline (Option Contents)}
    → IsLife Reads last events told moments old new → ℕ → ℕ → Standing → Type 0
IsDoneAt {Reads} {events = events} {told = told} {moments = moments} {new = new} life stop index next =
    (stops : StopsIn Reads new life.begin stop events told moments next) × (index < length stops.done)

-- ---- both may be left

-- an event after which another database was committed, and in which no device failed; a stop right before it left where it stood
pub record Changes (Reads : ReadingRelation) (time : Timeline (Option Contents)) (w : At) (event : MachineEvent TheText) (answer : Answer) (next : At) : Type 0 where
  pub here : stops_of time w.moment w.moment (IsFoundAt w.standing)
  pub happens : Happens Reads (stops_of time) w event answer next
  pub within : next.moment ≤ time.moment
  pub nothing_before : w.standing.under_way ≡ None
  pub nothing_after : next.standing.under_way ≡ None
  pub another : w.standing.machine.committed ≢ next.standing.machine.committed

-- there is no moment within the event at which a stop may leave the database before it and may leave the one after it
abbrev pub LeavesOneAtEach : Timeline (Option Contents) → At → At → Type 0
LeavesOneAtEach time w next = (moment : ℕ) → w.moment < moment → moment < next.moment
    → LeavesAt time moment w.standing.machine.committed → LeavesAt time moment next.standing.machine.committed → ⊥
