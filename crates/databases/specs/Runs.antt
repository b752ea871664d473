-- What a script, the connections of a listener, and many clients do over a database on a device.
use Rattle.std.specs.Prelude.{◌≡◌, ◌↔◌, ◌-◌, ◌^◌, ℕ, List, true, Option}
use Rattle.sector_device.specs.declared.device.Device.{Ghosts}
use Rattle.store.specs.Store.{KeepsHistory}
use Rattle.journal_store.specs.declared.device_stores.DeviceStore.{DeviceStore}
use Rattle.journal_store.specs.DeviceStores.{store_state}
use Rattle.abstract_database.specs.Runs.{ReadingRelation, At}
use Rattle.server.specs.declared.server.Server.{Server}
use Rattle.server.specs.Standing.{Represents}
use Rattle.wire.specs.declared.script_run.ScriptEnd.{ScriptEnd}
use Rattle.wire.specs.Closing.{StandsWithinLimit, LeavesNoSession}
use Rattle.wire.specs.declared.sink.Sink.{Ghosts as SinkGhosts}
use Rattle.wire.specs.ScriptRun.{IsScriptRun, lines_of}
use Rattle.wire.specs.declared.listener.Served.{Served}
use Rattle.wire.specs.declared.listener.Served.TheVariants.{Stopped}
use Rattle.wire.specs.Connection.{HasRun}
use Rattle.wire.specs.Listening.{Listening}
use Rattle.wire.specs.Listener.{ServesAtMost}
use Rattle.databases.specs.Answered.{IsOfListener, IsOfScript, LivesFrom}
use Rattle.databases.specs.Clients.{EndsWithNobody, IsOfTurns}
use Rattle.databases.specs.Openings.{device_under}
use Rattle.talks.specs.Serving.{ServesClients}
use Rattle.talks.specs.declared.talk.Talk.{Ghosts as TalkGhosts}
use Rattle.talks.specs.declared.clients.ServedClients.{Ghosts as ClientsGhosts}
use Rattle.talks.specs.declared.serving.ServeEnd.{ServeEnd}
use Rattle.served_machine.specs.declared.machine.ServedMachine.{ServedMachine}
use Rattle.served_machine.specs.Machines.{machine_of}
use Rattle.served_clients.specs.Taken.{RunsEach}
use Rattle.served_clients.specs.Spelled.{of_turns}

-- ---- a script

-- The lines of a script were run from this server on, and its device is left; no session is open, unless the server has stopped. The run
-- is a life of the database
pub record RunsScriptFrom {D : Type 0} (g : Ghosts D) {X K : Type 0} (k : SinkGhosts K) (Reads : ReadingRelation) (opened : Server (DeviceStore D g) X) (script : List ℕ) (before : K) (end : ScriptEnd) (left : D) (after : K) : Type 0 where
  pub last : Server (DeviceStore D g) X
  pub history : KeepsHistory (store_state opened.store) (store_state last.store)
  pub ran : IsScriptRun Reads store_state k opened (lines_of script) before end last after
  pub closed : StandsWithinLimit store_state opened → LeavesNoSession store_state last
  pub left_is : left ≡ device_under last
  pub life : LivesFrom g Reads opened (IsOfScript Reads store_state k opened last before ran) (g.state left)

-- ---- connections

-- The connections that came to a listener were served from this server on, so many at most, and its device is left; no session is
-- open, unless the server has stopped. A server that had stopped before serves none. The run is a life of the database
pub record ServesFrom {D : Type 0} (g : Ghosts D) {X K : Type 0} (k : SinkGhosts K) (Reads : ReadingRelation) (asked : ℕ) (opened : Server (DeviceStore D g) X) (before : Option Listening) (served : Served) (left : D) (after : Option Listening) : Type 0 where
  pub last : Server (DeviceStore D g) X
  pub history : KeepsHistory (store_state opened.store) (store_state last.store)
  pub serves : ServesAtMost Reads store_state k asked opened before served last after
  pub ran : StandsWithinLimit store_state opened → HasRun Reads store_state opened last
  pub stopped : (served ≡ Stopped) ↔ (last.stopped ≡ true)
  pub refused : opened.stopped ≡ true → last ≡ opened
  pub closed : (store_state opened.store).sound → LeavesNoSession store_state opened → LeavesNoSession store_state last
  pub left_is : left ≡ device_under last
  pub life : LivesFrom g Reads opened (IsOfListener Reads store_state k opened last before serves) (g.state left)

-- ---- clients

-- Clients were served from this server on, in 2^64 - 1 turns at most, and its device is left. What was done for them has one order, and the events
-- among that are a run of the session machine. No session is open once nobody is there any more, unless the server has stopped. A server that had
-- stopped before is left as it was. The run is a life of the database
pub record ServesClientsFrom {D : Type 0} (g : Ghosts D) {X T C : Type 0} (t : TalkGhosts T) (k : ClientsGhosts C T) (Reads : ReadingRelation) (opened : Server (DeviceStore D g) X) (before : C) (end : ServeEnd) (left : D) (after : C) : Type 0 where
  pub first : ServedMachine (DeviceStore D g) X
  pub first_is : first.server ≡ opened
  pub last : ServedMachine (DeviceStore D g) X
  pub history : KeepsHistory (store_state opened.store) (store_state last.server.store)
  pub serves : ServesClients (machine_of Reads store_state) t k (2 ^ 64 - 1) first before end last after
  pub ran : (w : At) → (store_state opened.store).sound → Represents store_state opened w
      → RunsEach Reads store_state opened w (of_turns Reads store_state t k first before serves.turns last after serves.took) last.server
  pub refused : opened.stopped ≡ true → last.server ≡ opened
  pub closed : (store_state opened.store).sound → LeavesNoSession store_state opened → EndsWithNobody end → LeavesNoSession store_state last.server
  pub left_is : left ≡ device_under last.server
  pub life : LivesFrom g Reads opened (IsOfTurns Reads store_state t k first before serves.turns last after serves.took) (g.state left)
