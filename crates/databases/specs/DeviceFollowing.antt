-- Runs over a device that follow each other, without end. A stop may end each of them at any moment.
use Rattle.std.specs.Prelude.{◌≡◌, ℕ, List, [], ◌∷◌, Option}
use Rattle.sector_device.specs.declared.device.Device.{Ghosts}
use Rattle.store.specs.Store.{Contents}
use Rattle.journal_store.specs.DeviceStores.{store_state}
use Rattle.abstract_database.specs.Runs.{ReadingRelation, Standing}
use Rattle.databases.specs.Lives.{IsNoLife}
use Rattle.databases.specs.OnDevice.{records_on}
use Rattle.databases.specs.Stopping.{is_left_by, IsWithin, StopsAt}
use Rattle.wire.specs.declared.script_run.ScriptEnd.{ScriptEnd}
use Rattle.wire.specs.declared.sink.Sink.{Ghosts as SinkGhosts}
use Rattle.wire.specs.declared.listener.Served.{Served}
use Rattle.wire.specs.Listening.{Listening}
use Rattle.databases.specs.declared.database.Opened.{Opened}
use Rattle.databases.specs.declared.fault.DatabaseFault.{DatabaseFault}
use Rattle.databases.specs.Openings.{IsOpenedOn, IsRefused}
use Rattle.databases.specs.Answered.{Answered, IsLived, IsOfListener, IsOfScript}
use Rattle.databases.specs.Clients.{IsOfTurns}
use Rattle.databases.specs.Runs.{RunsScriptFrom, ServesClientsFrom, ServesFrom}
use Rattle.talks.specs.declared.talk.Talk.{Ghosts as TalkGhosts}
use Rattle.talks.specs.declared.clients.ServedClients.{Ghosts as ClientsGhosts}
use Rattle.talks.specs.declared.serving.ServeEnd.{ServeEnd}

-- What was done with a device: its database was opened, and a script was run over it, or connections were served one after the other, or many
-- clients at once; or none was opened.
pub data Did {D : Type 0} (g : Ghosts D) (X : Type 0) {K M T C : Type 0} (k : SinkGhosts K) (m : SinkGhosts M) (t : TalkGhosts T) (c : ClientsGhosts C T) (Reads : ReadingRelation) (begin end : D) : Type 0 where
  ran_script : (opened : Opened D X g) → IsOpenedOn (g.state begin) opened → (script : List ℕ) (before : K) (ending : ScriptEnd) (after : K)
      → RunsScriptFrom g k Reads opened.server script before ending end after → Did g X k m t c Reads begin end
  served_connections : (opened : Opened D X g) → IsOpenedOn (g.state begin) opened → (asked : ℕ) (before : Option Listening) (ending : Served) (after : Option Listening)
      → ServesFrom g m Reads asked opened.server before ending end after → Did g X k m t c Reads begin end
  served_clients : (opened : Opened D X g) → IsOpenedOn (g.state begin) opened → (before : C) (ending : ServeEnd) (after : C)
      → ServesClientsFrom g t c Reads opened.server before ending end after → Did g X k m t c Reads begin end
  opened_none : (fault : DatabaseFault) → IsRefused (g.state begin) fault (g.state end) → Did g X k m t c Reads begin end

-- A run: the device when it began and when it ended, what was done, and what stopped it: a stop at this moment, or one after all that
-- was done.
pub record Run {D : Type 0} (g : Ghosts D) (X : Type 0) {K M T C : Type 0} (k : SinkGhosts K) (m : SinkGhosts M) (t : TalkGhosts T) (c : ClientsGhosts C T) (Reads : ReadingRelation) : Type 0 where
  pub begin : D
  pub end : D
  pub did : Did g X k m t c Reads begin end
  pub stop : Option ℕ

module _ {D : Type 0} {g : Ghosts D} {X K M T C : Type 0} {k : SinkGhosts K} {m : SinkGhosts M} {t : TalkGhosts T} {c : ClientsGhosts C T} {Reads : ReadingRelation} where
  -- what was answered in it
  abbrev pub IsAnsweredIn : {begin end : D} → Did g X k m t c Reads begin end → Answered → Type 0
  IsAnsweredIn (ran_script opened is script before ending after runs) it = IsOfScript Reads store_state k opened.server runs.last before runs.ran it
  IsAnsweredIn (served_connections opened is asked before ending after serves) it = IsOfListener Reads store_state m opened.server serves.last before serves.serves it
  IsAnsweredIn (served_clients opened is before ending after serves) it =
      IsOfTurns Reads store_state t c serves.first before serves.serves.turns serves.last after serves.serves.took it
  IsAnsweredIn (opened_none fault refused) it = ⊥

  -- Each device is faithful, and holds at its start what the last stop may have left; that was a stop at a moment of the run before.
  abbrev pub AreStopped : (Option Contents → Type 0) → List (Run g X k m t c Reads) → Type 0
  AreStopped left [] = Unit {0}
  AreStopped left (run ∷ runs) =
      (g.state run.begin).faithful
      × ((x : Option Contents) → (records_on (g.state run.begin)).left x → left x)
      × IsWithin run.stop (records_on (g.state run.begin)) (records_on (g.state run.end))
      × AreStopped (is_left_by run.stop (records_on (g.state run.end))) runs

  -- a run is a life, which leads from where the last one was stopped to where it is stopped itself; one that opened none leads nowhere
  abbrev pub LeadsOn : {begin end : D} → Did g X k m t c Reads begin end → Standing → Option ℕ → Standing → Type 0
  LeadsOn {begin} {end} (opened_none fault refused) last stop next = IsNoLife last (records_on (g.state begin)) (records_on (g.state end)) × (next ≡ last)
  LeadsOn {begin} {end} did last stop next =
      (it : Answered) × IsAnsweredIn did it × ((is : IsLived Reads last it (g.state begin) (g.state end)) × StopsAt last is.0 stop next)

  -- each run goes on from where the one before it was stopped
  abbrev pub GoOn : Standing → List (Run g X k m t c Reads) → Type 0
  GoOn last [] = Unit {0}
  GoOn last (run ∷ runs) = (next : Standing) × LeadsOn run.did last run.stop next × GoOn next runs
