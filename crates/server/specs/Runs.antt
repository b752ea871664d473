-- What a step and a run of a server are.
use Rattle.std.specs.Prelude.{◌≤◌, ℕ, List, Option}
use Rattle.sector_device.specs.Timeline.{Timeline}
use Rattle.sql_types.specs.declared.answer.Answer.{Answer}
use Rattle.sql_types.specs.declared.event.Event.{Event}
use Rattle.store.specs.Store.{StoreState, Contents}
use Rattle.abstract_database.specs.Runs.{ReadingRelation, RanBy, At, Happens}
use Rattle.server.specs.declared.server.Server.{Server}
use Rattle.server.specs.Standing.{event_of, events_of, stops_of, Represents}

-- what is said of moments up to the first does not grow
abbrev pub KeepsPast : Timeline (Option Contents) → Timeline (Option Contents) → Type 0
KeepsPast old new = (a b : ℕ) (x : Option Contents) → b ≤ old.moment → new.stops a b x → old.stops a b x

-- wherever the server stood, it stands where the event of this client leads
abbrev pub Steps : {S X : Type 0} → ReadingRelation → (S → StoreState) → ℕ → Server S X → Event → Answer → Server S X → Type 0
Steps Reads state client old e answer new = (state old.store).sound → (w : At) → Represents state old w →
    (next : At) × Represents state new next
    × Happens Reads (stops_of (state new.store).time) w (event_of client e) answer next
    × KeepsPast (state old.store).time (state new.store).time

-- and where events of a client lead, one after the other
abbrev pub Runs : {S X : Type 0} → ReadingRelation → (S → StoreState) → ℕ → Server S X → List Event → List Answer → Server S X → Type 0
Runs Reads state client old es answers new = (state old.store).sound → (w : At) → Represents state old w →
    (end : At) × Represents state new end
    × RanBy (Happens Reads (stops_of (state new.store).time)) w (events_of client es) answers end
    × KeepsPast (state old.store).time (state new.store).time
