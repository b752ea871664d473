-- Which of the answers of a run were told, and at which place each stands among all that were answered.
use Rattle.std.specs.Prelude.{◌≡◌, ◌⊎◌, ◌+◌, ℕ, Bool, List, [], ◌∷◌, ◌++◌, length, slice_get, Option, Some}
use Rattle.std.proofs.Common.{inl, inr}
use Rattle.sector_device.specs.declared.device.Device.{Ghosts}
use Rattle.sql_types.specs.declared.answer.Answer.{Answer}
use Rattle.sql_types.specs.declared.event.Event.{Event}
use Rattle.store.specs.Store.{StoreState}
use Rattle.journal_store.specs.DeviceStores.{store_state}
use Rattle.abstract_database.specs.Runs.{ReadingRelation}
use Rattle.server.specs.declared.server.Server.{Server}
use Rattle.wire.specs.declared.script_run.ScriptEnd.{ScriptEnd}
use Rattle.wire.specs.declared.script_run.ScriptEnd.TheVariants as script
use Rattle.wire.specs.declared.sink.Sink.{Ghosts as SinkGhosts}
use Rattle.wire.specs.Telling.{Told}
use Rattle.wire.specs.ScriptRun.{TellsTo}
use Rattle.wire.specs.declared.connection.End.{End}
use Rattle.wire.specs.declared.connection.End.TheVariants as connection
use Rattle.wire.specs.Connection.{AnswersUntaken, InputState, IsServed}
use Rattle.wire.specs.Listening.{Listening}
use Rattle.wire.specs.Listener.{Connection, ServesEach}
use Rattle.databases.specs.Lives.{ClientEvent}
use Rattle.databases.specs.Answered.{Answered, IsOfEach}
use Rattle.databases.specs.DeviceFollowing.{Did, ran_script, served_connections, served_clients, opened_none, IsAnsweredIn}
use Rattle.talks.specs.declared.want.Reply.TheVariants as reply
use Rattle.talks.specs.declared.talk.Talk.{Ghosts as TalkGhosts}
use Rattle.talks.specs.declared.clients.ServedClients.{Ghosts as ClientsGhosts}
use Rattle.talks.specs.Turns.{Exchange, Turn, TakesTurns}
use Rattle.served_machine.specs.declared.machine.ServedMachine.{ServedMachine}
use Rattle.served_machine.specs.Machines.{machine_of}
use Rattle.served_clients.specs.Told.{IsTold as IsToldOf}

module _ {S X K : Type 0} (Reads : ReadingRelation) (state : S → StoreState) (k : SinkGhosts K) where
  -- the answers to the events of a script that were told
  abbrev pub told_in_lines : (old new : Server S X) (before after : K) (events : List Event) (answers : List Answer) (e : ScriptEnd)
      → TellsTo Reads state k e old before events answers new after → List Told
  told_in_lines old new before after events answers script.Done tells = tells.told
  told_in_lines old new before after events answers (script.BadLine number) tells = tells.told
  told_in_lines old new before after events answers script.Stopped tells = tells.told
  told_in_lines old new before after events answers script.Memory tells = tells.told
  told_in_lines old new before after events answers script.Writer tells = tells.0.told

  -- and those to the events of a connection
  abbrev pub told_of_untaken : {old new : Server S X} {before after : K} {events : List Event} {is_bad : Bool} → AnswersUntaken Reads state k old events is_bad before new after → List Told
  told_of_untaken (inl some) = some.some.told
  told_of_untaken (inr all) = all.1.1.tells.told

  abbrev pub told_in_bytes : (old new : Server S X) (input left : InputState) (before after : K) (e : End) → IsServed Reads state k old input before e new left after → List Told
  told_in_bytes old new input left before after connection.Input it = it.1.answered.tells.told
  told_in_bytes old new input left before after connection.BadFrame it = it.answered.tells.told
  told_in_bytes old new input left before after connection.Reader it = it.2.answered.tells.told
  told_in_bytes old new input left before after connection.ReadLimit it = it.1.answered.tells.told
  told_in_bytes old new input left before after connection.Writer it = it.so_far.answered.tells.told ++ told_of_untaken it.answered
  told_in_bytes old new input left before after connection.Memory it = it.so_far.answered.tells.told

  -- it was told in one of the connections, and has this place: there, or behind all that was answered in those before
  abbrev pub IsToldInEach : (connections : List (Connection K)) (old new : Server S X) (before after : Option Listening) (each : ServesEach Reads state k old before connections new after) (it : Answered)
      → IsOfEach Reads state k connections old new before after each it → ℕ → Told → Type 0
  IsToldInEach [] old new before after each it is place t = ⊥
  IsToldInEach (c ∷ rest) old new before after each it is place t =
      (slice_get (told_in_bytes old each.2.served.server c.input c.left c.taken c.closed c.end each.2.served.served) place ≡ Some t)
      ⊎ ((later : ℕ) × (place ≡ length is.0.moments + later) × IsToldInEach rest each.0 new each.1 after each.3 is.1 is.4 later t)

-- this client was told this answer, at this moment, and it has this place among all that the server gave
abbrev pub IsToldToClient : {S X T C : Type 0} (Reads : ReadingRelation) (state : S → StoreState) (t : TalkGhosts T) (k : ClientsGhosts C T)
    (old : ServedMachine S X) (before : C) (turns : List Turn) (new : ServedMachine S X) (after : C) → TakesTurns (machine_of Reads state) t k old before turns new after → ℕ → ℕ → Told → Type 0
IsToldToClient Reads state t k old before turns new after took client place told = (exchange : Exchange) × (exchange.client ≡ client)
    × IsToldOf Reads state t k old before turns new after took exchange told.moment place
    × (exchange.reply ≡ reply.Answer told.answer)

-- at this place stands an event of this client, with this answer
pub record IsOwnAnswer (it : Answered) (client place : ℕ) (answer : Answer) : Type 0 where
  pub event : ClientEvent
  pub there : slice_get it.events place ≡ Some event
  pub own : event.client ≡ client
  pub answered : slice_get it.answers place ≡ Some answer

-- this answer of a run was told, and has this place among all that were answered in it
abbrev pub IsTold : {D : Type 0} {g : Ghosts D} {X K M T C : Type 0} {k : SinkGhosts K} {m : SinkGhosts M} {t : TalkGhosts T} {c : ClientsGhosts C T} {Reads : ReadingRelation} {begin end : D}
    (did : Did g X k m t c Reads begin end) (it : Answered) → IsAnsweredIn did it → ℕ → Told → Type 0
IsTold {k = k} {Reads = Reads} (ran_script opened is script before ending after runs) it answered place told =
    let run = runs.ran in
    slice_get (told_in_lines Reads store_state k opened.server run.server before run.told run.ran.events run.ran.answers run.ending run.ran.tells) place ≡ Some told
IsTold {m = m} {Reads = Reads} (served_connections opened is asked before ending after serves) it answered place told =
    IsToldInEach Reads store_state m serves.serves.connections opened.server serves.last before serves.serves.between serves.serves.each it answered place told
IsTold {t = t} {c = c} {Reads = Reads} (served_clients opened is before ending after serves) it answered place told =
    (client : ℕ) × IsToldToClient Reads store_state t c serves.first before serves.serves.turns serves.last after serves.serves.took client place told
IsTold (opened_none fault refused) it answered place told = ⊥
