-- Answers that are told, each where the store stands once its event is carried out and before the next one is.
use Rattle.std.specs.Prelude.{◌≡◌, ℕ, List, [], ◌∷◌, ◌++◌}
use Rattle.std.specs.Io.KnownBytes.{Appends}
use Rattle.sql_types.specs.declared.answer.Answer.{Answer}
use Rattle.sql_types.specs.declared.event.Event.{Event}
use Rattle.sql_types.specs.declared.event.Event.TheVariants as event
use Rattle.store.specs.Store.{StoreState, KeepsHistory}
use Rattle.abstract_database.specs.Runs.{ReadingRelation}
use Rattle.server.specs.declared.server.Server.{Server}
use Rattle.server.specs.Runs.{Steps}
use Rattle.wire.specs.Counts.{Rose}
use Rattle.wire.specs.declared.sink.Sink.{Ghosts}

-- ---- one event

-- the session that an event names
abbrev pub session_of : Event → ℕ
session_of (event.Open session login) = session
session_of (event.Statement session text) = session
session_of (event.Close session) = session

-- an answer that was told, and the store's moment then
pub record Told : Type 0 where
  pub answer : Answer
  pub moment : ℕ

abbrev pub answers_of : List Told → List Answer
answers_of [] = []
answers_of (t ∷ told) = t.answer ∷ answers_of told

-- the event was carried out, and then its answer was told, before anything else was done
pub record Tells {S X K : Type 0} (Reads : ReadingRelation) (state : S → StoreState) (k : Ghosts K) (old : Server S X) (before : K) (e : Event) (t : Told) (new : Server S X) (after : K) : Type 0 where
  pub step : Steps Reads state 0 old e t.answer new
  pub history : KeepsHistory (state old.store) (state new.store)
  pub moment : t.moment ≡ (state new.store).time.moment
  pub told : k.tells before (state new.store) (session_of e) t.answer after
  pub taken : Appends (k.held before) (k.held after) (k.spelled (session_of e) t.answer)

-- the event was carried out, and then the telling of its answer failed, before anything else was done
pub record Breaks {S X K : Type 0} (Reads : ReadingRelation) (state : S → StoreState) (k : Ghosts K) (old : Server S X) (before : K) (e : Event) (answer : Answer) (new : Server S X) (after : K) : Type 0 where
  pub step : Steps Reads state 0 old e answer new
  pub history : KeepsHistory (state old.store) (state new.store)
  pub broken : k.breaks before (state new.store) (session_of e) answer after
  pub cause : Rose (k.failures before) (k.failures after)

-- ---- one event after the other

-- each event was carried out and its answer told, before the next one was carried out
abbrev pub TellsAll : {S X K : Type 0} → ReadingRelation → (S → StoreState) → Ghosts K → Server S X → K → List Event → List Told → Server S X → K → Type 0
TellsAll Reads state k old before [] [] new after = (new ≡ old) × (after ≡ before)
TellsAll {S} {X} {K} Reads state k old before (e ∷ events) (t ∷ told) new after =
    (server : Server S X) × (between : K) × Tells Reads state k old before e t server between × TellsAll Reads state k server between events told new after
TellsAll Reads state k old before [] (t ∷ told) new after = ⊥
TellsAll Reads state k old before (e ∷ events) [] new after = ⊥

-- these are the answers that were told
pub record TellsEach {S X K : Type 0} (Reads : ReadingRelation) (state : S → StoreState) (k : Ghosts K) (old : Server S X) (before : K) (events : List Event) (answers : List Answer) (new : Server S X) (after : K) : Type 0 where
  pub told : List Told
  pub answers_are : answers ≡ answers_of told
  pub all : TellsAll Reads state k old before events told new after

-- the first events were carried out and their answers told; one more was carried out, the telling of whose answer failed, and nothing was done
-- after it
pub record TellsSome {S X K : Type 0} (Reads : ReadingRelation) (state : S → StoreState) (k : Ghosts K) (old : Server S X) (before : K) (events : List Event) (new : Server S X) (after : K) : Type 0 where
  pub done : List Event
  pub last : Event
  pub others : List Event
  pub split : events ≡ done ++ last ∷ others
  pub told : List Told
  pub server : Server S X
  pub between : K
  pub all : TellsAll Reads state k old before done told server between
  pub answer : Answer
  pub breaks : Breaks Reads state k server between last answer new after
