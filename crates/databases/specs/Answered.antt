-- What is answered in a run on a device, each answer with its moment: the events of a script or of connections, and then those that
-- close the sessions that are left open.
use Rattle.std.specs.Prelude.{◌≡◌, ℕ, Bool, true, false, List, [], ◌∷◌, ◌++◌, Option}
use Rattle.std.proofs.Common.{inl, inr}
use Rattle.sector_device.specs.Device.{DeviceState}
use Rattle.sector_device.specs.declared.device.Device.{Ghosts}
use Rattle.sql_types.specs.declared.answer.Answer.{Answer}
use Rattle.sql_types.specs.declared.event.Event.{Event}
use Rattle.store.specs.Store.{StoreState}
use Rattle.journal_store.specs.declared.device_stores.DeviceStore.{DeviceStore}
use Rattle.abstract_database.specs.Runs.{ReadingRelation, Standing}
use Rattle.server.specs.declared.server.Server.{Server}
use Rattle.databases.specs.Lives.{ClientEvent, of_client, all_of_client, LeavesFound}
use Rattle.databases.specs.OnDevice.{records_on, IsLifeOn}
use Rattle.wire.specs.declared.script_run.ScriptEnd.{ScriptEnd}
use Rattle.wire.specs.declared.script_run.ScriptEnd.TheVariants as script
use Rattle.wire.specs.declared.sink.Sink.{Ghosts as SinkGhosts}
use Rattle.wire.specs.Closing.{Sessions, closing_events, closed_answers}
use Rattle.wire.specs.Telling.{Told, answers_of, TellsEach, TellsSome}
use Rattle.wire.specs.ScriptRun.{IsScriptRun, TellsTo}
use Rattle.wire.specs.declared.connection.End.{End}
use Rattle.wire.specs.declared.connection.End.TheVariants as connection
use Rattle.wire.specs.declared.listener.Served.{Served}
use Rattle.wire.specs.Connection.{AnswersUntaken, InputState, IsServed, IsConnection}
use Rattle.wire.specs.Listening.{Listening}
use Rattle.wire.specs.Listener.{Connection, ServesEach, ServesAtMost}
use Rattle.databases.specs.declared.database.Opened.{Opened}
use Rattle.databases.specs.Openings.{IsOpenedOn}

-- ---- events that were answered

-- events of clients, one after the other, the answer to each, and the moment at which it was there
pub record Answered : Type 0 where
  pub events : List ClientEvent
  pub answers : List Answer
  pub moments : List ℕ

abbrev pub nothing_answered : Answered
nothing_answered = record { events = []; answers = []; moments = [] }

-- these, and then more
abbrev pub and_then : Answered → Answered → Answered
and_then these more = record { events = these.events ++ more.events; answers = these.answers ++ more.answers; moments = these.moments ++ more.moments }

-- the moments at which answers were told
abbrev pub moments_of : List Told → List ℕ
moments_of [] = []
moments_of (t ∷ told) = t.moment ∷ moments_of told

module _ {S X K : Type 0} {Reads : ReadingRelation} {state : S → StoreState} {k : SinkGhosts K} where
  -- each answer was told
  abbrev pub each_told : {old new : Server S X} {before after : K} {events : List Event} {answers : List Answer} → TellsEach Reads state k old before events answers new after → Answered
  each_told {events = events} {answers = answers} tells = record { events = all_of_client 0 events; answers = answers; moments = moments_of tells.told }

  -- each but the last: the telling of that one failed, once its event had been carried out
  abbrev pub some_told : {old new : Server S X} {before after : K} {events : List Event} → TellsSome Reads state k old before events new after → Answered
  some_told {new = new} tells = record {
    events = all_of_client 0 tells.done ++ of_client 0 tells.last ∷ [];
    answers = answers_of tells.told ++ tells.answer ∷ [];
    moments = moments_of tells.told ++ (state new.store).time.moment ∷ [];
  }

-- ---- the sessions that are left open

-- the events that close them, the first opened first; a server that has stopped closes none
abbrev pub closing_of : Bool → Sessions → List Event
closing_of true sessions = []
closing_of false sessions = closing_events sessions

-- and the answers
abbrev pub closed_of : Bool → Sessions → List Answer
closed_of true sessions = []
closed_of false sessions = closed_answers sessions

-- the sessions that this server has left open were closed, and nothing else was done
pub record ClosesAll {S X : Type 0} (server : Server S X) (it : Answered) : Type 0 where
  pub events : it.events ≡ all_of_client 0 (closing_of server.stopped server.sessions.entries)
  pub answers : it.answers ≡ closed_of server.stopped server.sessions.entries

-- ---- a script

module _ {S X K : Type 0} (Reads : ReadingRelation) (state : S → StoreState) (k : SinkGhosts K) where
  -- the events of its lines
  abbrev pub of_lines : (old new : Server S X) (before after : K) (events : List Event) (answers : List Answer) (e : ScriptEnd)
      → TellsTo Reads state k e old before events answers new after → Answered
  of_lines old new before after events answers script.Done tells = each_told tells
  of_lines old new before after events answers (script.BadLine number) tells = each_told tells
  of_lines old new before after events answers script.Stopped tells = each_told tells
  of_lines old new before after events answers script.Memory tells = each_told tells
  of_lines old new before after events answers script.Writer tells = some_told tells.0

  -- all that was answered in it: the events of its lines, and then those that close the sessions
  abbrev pub IsOfScript : (old new : Server S X) {lines : List (List ℕ)} (before : K) {after : K} {e : ScriptEnd} → IsScriptRun Reads state k old lines before e new after → Answered → Type 0
  IsOfScript old new before run it = (closing : Answered) × ClosesAll run.server closing
      × (it ≡ and_then (of_lines old run.server before run.told run.ran.events run.ran.answers run.ending run.ran.tells) closing)

  -- ---- connections

  -- the events of a piece of which not all answers were taken
  abbrev pub of_untaken : {old new : Server S X} {before after : K} {events : List Event} {is_bad : Bool} → AnswersUntaken Reads state k old events is_bad before new after → Answered
  of_untaken (inl some) = some_told some.some
  of_untaken (inr all) = each_told all.1.1.tells

  -- the events that the bytes of a connection spell
  abbrev pub of_bytes : (old new : Server S X) (input left : InputState) (before after : K) (e : End) → IsServed Reads state k old input before e new left after → Answered
  of_bytes old new input left before after connection.Input served = each_told served.1.answered.tells
  of_bytes old new input left before after connection.BadFrame served = each_told served.answered.tells
  of_bytes old new input left before after connection.Reader served = each_told served.2.answered.tells
  of_bytes old new input left before after connection.ReadLimit served = each_told served.1.answered.tells
  of_bytes old new input left before after connection.Writer served = and_then (each_told served.so_far.answered.tells) (of_untaken served.answered)
  of_bytes old new input left before after connection.Memory served = each_told served.so_far.answered.tells

  -- all that was answered in a connection: the events that its bytes spell, and then those that close the sessions
  abbrev pub IsOfConnection : (old new : Server S X) (c : Connection K) → IsConnection Reads state k old c.input c.taken c.end new c.left c.closed → Answered → Type 0
  IsOfConnection old new c it all = (closing : Answered) × ClosesAll it.server closing
      × (all ≡ and_then (of_bytes old it.server c.input c.left c.taken c.closed c.end it.served) closing)

  -- in connections, one after the other
  abbrev pub IsOfEach : (connections : List (Connection K)) (old new : Server S X) (before after : Option Listening) → ServesEach Reads state k old before connections new after → Answered → Type 0
  IsOfEach [] old new before after each it = it ≡ nothing_answered
  IsOfEach (c ∷ rest) old new before after each it = (first : Answered) × (others : Answered)
      × IsOfConnection old each.0 c each.2.served first × (it ≡ and_then first others) × IsOfEach rest each.0 new each.1 after each.3 others

  -- and in all that were served for a listener
  abbrev pub IsOfListener : (old new : Server S X) {asked : ℕ} (before : Option Listening) {after : Option Listening} {e : Served} → ServesAtMost Reads state k asked old before e new after → Answered → Type 0
  IsOfListener old new before serves it = IsOfEach serves.connections old new before serves.between serves.each it

-- ---- a life

-- what was answered is a life on the device, after one that ended here
abbrev pub IsLived : ReadingRelation → Standing → Answered → DeviceState → DeviceState → Type 0
IsLived Reads last it old new = IsLifeOn Reads last it.events it.answers it.moments old new

-- On each faithful device over which this server was opened, what was answered is a life, after each that may have left the device so
abbrev pub LivesFrom : {D : Type 0} (g : Ghosts D) {X : Type 0} → ReadingRelation → Server (DeviceStore D g) X → (Answered → Type 0) → DeviceState → Type 0
LivesFrom {D} g {X} Reads server IsAnswered left = (device : D) (opened : Opened D X g) → opened.server ≡ server → IsOpenedOn (g.state device) opened
    → (g.state device).faithful → (last : Standing) → LeavesFound last (records_on (g.state device))
    → (it : Answered) × IsAnswered it × IsLived Reads last it (g.state device) left
