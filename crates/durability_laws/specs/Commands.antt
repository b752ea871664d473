-- Commands over the database on a device that follow each other, without end. A stop may end each of them at any moment.
use Rattle.std.specs.Prelude.{◌≡◌, ℕ, List, [], ◌∷◌, Option}
use Rattle.sector_device.specs.declared.device.Device.{Ghosts}
use Rattle.store.specs.Store.{Contents}
use Rattle.abstract_database.specs.Database.{Database}
use Rattle.abstract_database.specs.Runs.{ReadingRelation, Standing, IsFoundAt}
use Rattle.wire.specs.declared.sink.Sink.{Ghosts as SinkGhosts}
use Rattle.talks.specs.declared.talk.Talk.{Ghosts as TalkGhosts}
use Rattle.talks.specs.declared.clients.ServedClients.{Ghosts as ClientsGhosts}
use Rattle.databases.specs.Databases.{HoldsDatabase, records_on}
use Rattle.databases.specs.Lives.{IsFoundLeft}
use Rattle.databases.specs.Stopping.{is_left_by, IsWithin}
use Rattle.databases.specs.DeviceFollowing.{Did, ran_script, served_connections, served_clients, opened_none, LeadsOn}
use Rattle.durability_laws.specs.EventlessCommands.{EventlessCommand, LeadsEventless}

-- What a command did with a device: a script was run over its database, or connections or clients were served, or the opening was refused;
-- or no event was answered.
pub data Command {D : Type 0} (g : Ghosts D) (X : Type 0) {K M T C : Type 0} (k : SinkGhosts K) (m : SinkGhosts M) (t : TalkGhosts T) (c : ClientsGhosts C T) (Reads : ReadingRelation) (begin end : D) : Type 0 where
  ran : Did g X k m t c Reads begin end → Command g X k m t c Reads begin end
  eventless : EventlessCommand g X begin end → Command g X k m t c Reads begin end

-- A command, with the device when it began and when it ended, and what stopped it: a stop at this moment, or one after all that was done.
pub record StoppedCommand {D : Type 0} (g : Ghosts D) (X : Type 0) {K M T C : Type 0} (k : SinkGhosts K) (m : SinkGhosts M) (t : TalkGhosts T) (c : ClientsGhosts C T) (Reads : ReadingRelation) : Type 0 where
  pub begin : D
  pub end : D
  pub command : Command g X k m t c Reads begin end
  pub stop : Option ℕ

module _ {D : Type 0} {g : Ghosts D} {X K M T C : Type 0} {k : SinkGhosts K} {m : SinkGhosts M} {t : TalkGhosts T} {c : ClientsGhosts C T} {Reads : ReadingRelation} where
  -- ---- the device, from command to command

  -- Each device is faithful, and holds at its start what the last stop may have left; that was a stop at a moment of the command before.
  abbrev pub AreStoppedInTurn : (Option Contents → Type 0) → List (StoppedCommand g X k m t c Reads) → Type 0
  AreStoppedInTurn left [] = Unit {0}
  AreStoppedInTurn left (it ∷ others) =
      (g.state it.begin).faithful
      × ((x : Option Contents) → (records_on (g.state it.begin)).left x → left x)
      × IsWithin it.stop (records_on (g.state it.begin)) (records_on (g.state it.end))
      × AreStoppedInTurn (is_left_by it.stop (records_on (g.state it.end))) others

  -- what the last stop may have left
  abbrev pub left_by_last : (Option Contents → Type 0) → List (StoppedCommand g X k m t c Reads) → Option Contents → Type 0
  left_by_last left [] x = left x
  left_by_last left (it ∷ others) x = left_by_last (is_left_by it.stop (records_on (g.state it.end))) others x

  -- ---- the database, from command to command

  -- a command leads from where the last one was stopped to where it is stopped itself
  abbrev pub Leads : {begin end : D} → Command g X k m t c Reads begin end → Standing → Option ℕ → Standing → Type 0
  Leads (ran did) last stop next = LeadsOn did last stop next
  Leads (eventless command) last stop next = LeadsEventless command last stop next

  -- each command goes on from where the one before it was stopped, and the last one was stopped here
  abbrev pub LeadTo : Standing → List (StoppedCommand g X k m t c Reads) → Standing → Type 0
  LeadTo last [] here = here ≡ last
  LeadTo last (it ∷ others) here = (next : Standing) × Leads it.command last it.stop next × LeadTo next others here

  -- Commands led from here to where the last one was stopped; and that is where a device stands that holds what the last stop may have left:
  -- the database that is found on it is one that is found there.
  pub record ComeTo (here : Standing) (left : Option Contents → Type 0) (commands : List (StoppedCommand g X k m t c Reads)) : Type 0 where
    pub next : Standing
    pub leads : LeadTo here commands next
    pub found : (x : Option Contents) → left_by_last left commands x → IsFoundLeft next x
    pub opened : (device : D) → (g.state device).faithful → ((x : Option Contents) → (records_on (g.state device)).left x → left_by_last left commands x)
        → (db : Database) → HoldsDatabase (g.state device) db → IsFoundAt next db

  -- ---- commands that answer nothing

  -- no event was answered in it
  abbrev pub AnsweredNothing : {begin end : D} → Command g X k m t c Reads begin end → Type 0
  AnsweredNothing (ran (ran_script opened is script before ending after runs)) = ⊥
  AnsweredNothing (ran (served_connections opened is asked before ending after serves)) = ⊥
  AnsweredNothing (ran (served_clients opened is before ending after serves)) = ⊥
  AnsweredNothing (ran (opened_none fault refused)) = Unit {0}
  AnsweredNothing (eventless command) = Unit {0}

  -- nor in any of these
  abbrev pub AllAnsweredNothing : List (StoppedCommand g X k m t c Reads) → Type 0
  AllAnsweredNothing [] = Unit {0}
  AllAnsweredNothing (it ∷ others) = AnsweredNothing it.command × AllAnsweredNothing others
