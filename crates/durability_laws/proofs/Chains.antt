-- Commands follow each other, by induction over them.
use Rattle.std.proofs.Common.{◌≡◌, ℕ, List, [], ◌∷◌, Option, Some, None, Result, Ok, Err, inl, inr, ⊎_elim, refl, sym, subst}
use Rattle.sector_device.specs.Device.{DeviceState, IsLeft}
use Rattle.sector_device.specs.declared.device.Device.{Ghosts}
use Rattle.store.specs.Store.{Contents}
use Rattle.journal_store.specs.declared.switch_fault.SwitchFault.{SwitchFault}
use Rattle.journal_store.specs.declared.switch_fault.SwitchFault.TheVariants.{Unopened, NotMigrated, Refused}
use Rattle.abstract_database.specs.Database.{Database}
use Rattle.abstract_database.specs.Runs.{ReadingRelation, Standing, IsFoundAt}
use Rattle.wire.specs.declared.sink.Sink.{Ghosts as SinkGhosts}
use Rattle.talks.specs.declared.talk.Talk.{Ghosts as TalkGhosts}
use Rattle.talks.specs.declared.clients.ServedClients.{Ghosts as ClientsGhosts}
use Rattle.databases.specs.declared.fault.DatabaseFault.{DatabaseFault}
use Rattle.databases.specs.Databases.{HoldsDatabase, records_on}
use Rattle.databases.specs.DeviceFollowing.{Did, ran_script, served_connections, served_clients, opened_none, LeadsOn}
use Rattle.databases.specs.Lives.{IsFoundLeft, LeavesFound, IsNoLife, standing_over}
use Rattle.databases.specs.Openings.{IsRefused}
use Rattle.databases.specs.Stopping.{is_left_by, IsWithin}
use Rattle.databases.proofs.DeviceLiving.{MeanOne, found_before, found_held, found_same}
use Rattle.databases.proofs.GoingOn.{none_at, stopped_at}
use Rattle.databases.proofs.Living.{means_is}
use Rattle.durability_laws.specs.EventlessCommands.{EventlessCommand, checked, only_read, copied, switched, KeepsFound, GoesOnAlike, GoesOnFromHeld, GoesOnSwitched, LeadsEventless}
use Rattle.durability_laws.specs.Commands.{Command, ran, eventless, StoppedCommand, AreStoppedInTurn, left_by_last, Leads, LeadTo, ComeTo, AnsweredNothing, AllAnsweredNothing}
use Rattle.durability_laws.proofs.Eventless.{To, goes_eventless}

-- a device on which none was opened leaves what it may have been left with
refused_leaves : (d e : DeviceState) (fault : DatabaseFault) (last : Standing) → IsLeft d d.content → LeavesFound last (records_on d) → IsRefused d fault e → IsNoLife last (records_on d) (records_on e)
refused_leaves d e fault last content found refused =
    ⊎_elim
    (λ untried. found_before d e last found untried.1)
    (λ tried.
    let here = found (Some tried.holds.contents) (d.content, content, tried.holds.has) in
    found_same d e last found here.0 here.2
    (tried.leaves here.0 (record { contents = tried.holds.contents; has = tried.holds.has; stands = means_is tried.holds.contents here.0 here.1 })))
    refused.outcome

-- what is found on a device that holds what the last stop may have left
opens : {D : Type 0} (g : Ghosts D) → ((device : D) → (g.state device).faithful → IsLeft (g.state device) (g.state device).content) → MeanOne
    → (left : Option Contents → Type 0) (next : Standing) → ((x : Option Contents) → left x → IsFoundLeft next x) → (device : D) → (g.state device).faithful
    → ((x : Option Contents) → (records_on (g.state device)).left x → left x) → (db : Database) → HoldsDatabase (g.state device) db → IsFoundAt next db
opens g content_left one left next found device faithful holds_left db holds = found_held one (g.state device) (content_left device faithful) next (λ x is. found x (holds_left x is)) db holds

module _ {D : Type 0} {g : Ghosts D} {X K M T C : Type 0} {k : SinkGhosts K} {m : SinkGhosts M} {t : TalkGhosts T} {c : ClientsGhosts C T} {Reads : ReadingRelation}
    (content_left : (device : D) → (g.state device).faithful → IsLeft (g.state device) (g.state device).content) (one : MeanOne) where
  goes_on : (begin end : D) (did : Did g X k m t c Reads begin end) (last : Standing) (stop : Option ℕ) → (g.state begin).faithful → LeavesFound last (records_on (g.state begin))
      → IsWithin stop (records_on (g.state begin)) (records_on (g.state end)) → To (LeadsOn did last stop) stop (g.state end)
  goes_on begin end (ran_script opened is script before ending after runs) last stop faithful found within =
      let life = runs.life begin opened refl is faithful last found in
      let to = stopped_at Reads last (records_on (g.state begin)) (records_on (g.state end)) life.0.events life.0.answers life.0.moments life.2.0 stop within in
      (to.0, (life.0, life.1, (life.2, to.1)), to.2)
  goes_on begin end (served_connections opened is asked before ending after serves) last stop faithful found within =
      let life = serves.life begin opened refl is faithful last found in
      let to = stopped_at Reads last (records_on (g.state begin)) (records_on (g.state end)) life.0.events life.0.answers life.0.moments life.2.0 stop within in
      (to.0, (life.0, life.1, (life.2, to.1)), to.2)
  goes_on begin end (served_clients opened is before ending after serves) last stop faithful found within =
      let life = serves.life begin opened refl is faithful last found in
      let to = stopped_at Reads last (records_on (g.state begin)) (records_on (g.state end)) life.0.events life.0.answers life.0.moments life.2.0 stop within in
      (to.0, (life.0, life.1, (life.2, to.1)), to.2)
  goes_on begin end (opened_none fault refused) last stop faithful found within =
      let none = refused_leaves (g.state begin) (g.state end) fault last (content_left begin faithful) found refused in
      (last, (none, refl), none_at Reads last (records_on (g.state begin)) (records_on (g.state end)) none stop within)

  goes : (begin end : D) (command : Command g X k m t c Reads begin end) (last : Standing) (stop : Option ℕ) → (g.state begin).faithful → LeavesFound last (records_on (g.state begin))
      → IsWithin stop (records_on (g.state begin)) (records_on (g.state end)) → To (Leads command last stop) stop (g.state end)
  goes begin end (ran did) last stop faithful found within = goes_on begin end did last stop faithful found within
  goes begin end (eventless command) last stop faithful found within = goes_eventless Reads content_left one begin end last stop faithful found within command

  pub come_to : (left : Option Contents → Type 0) (commands : List (StoppedCommand g X k m t c Reads)) (here : Standing) → ((x : Option Contents) → left x → IsFoundLeft here x)
      → AreStoppedInTurn left commands → ComeTo here left commands
  come_to left [] here found stopped = record { next = here; leads = refl; found = found; opened = opens g content_left one left here found }
  come_to left (it ∷ others) here found stopped =
      let went = goes it.begin it.end it.command here it.stop stopped.0 (λ x is. found x (stopped.1 x is)) stopped.2 in
      let more = come_to (is_left_by it.stop (records_on (g.state it.end))) others went.0 went.2 stopped.3 in
      record { next = more.next; leads = (went.0, went.1, more.leads); found = more.found; opened = more.opened }

-- ---- commands that answer nothing

-- what is found where a command led was found where it began
at_last : (last next : Standing) → next ≡ last → (db : Database) → IsFoundAt next db → IsFoundAt last db
at_last last next same db found = subst (λ (s : Standing). IsFoundAt s db) same found

at_held : (last : Standing) (held : Database) → IsFoundAt last held → (db : Database) → IsFoundAt (standing_over held) db → IsFoundAt last db
at_held last held found db (inl is) = subst (λ (x : Database). IsFoundAt last x) (sym is) found
at_held last held found db (inr is) = absurd (no_more is)
  where
    no_more : {A : Type 0} {x : A} → None ≡ Some x → ⊥
    no_more same = cc

from_held_back : (last next : Standing) (d e : DeviceState) (stop : Option ℕ) → GoesOnFromHeld last d e stop next → (db : Database) → IsFoundAt next db → IsFoundAt last db
from_held_back last next d e None (keeps, (held, holds, same)) db found = at_held last held (keeps.held held holds) db (at_last (standing_over held) next same db found)
from_held_back last next d e (Some stop) (keeps, same) db found = at_last last next same db found

switched_back : (result : Result ℕ SwitchFault) (last next : Standing) (d e : DeviceState) (stop : Option ℕ) → GoesOnSwitched result last d e stop next → (db : Database) → IsFoundAt next db → IsFoundAt last db
switched_back (Ok number) last next d e stop goes db found = from_held_back last next d e stop goes db found
switched_back (Err (Unopened fault)) last next d e stop goes db found = at_last last next goes.1 db found
switched_back (Err NotMigrated) last next d e stop goes db found = at_last last next goes.1 db found
switched_back (Err (Refused fault)) last next d e stop goes db found = from_held_back last next d e stop goes db found

module _ {D : Type 0} {g : Ghosts D} {X : Type 0} where
  eventless_back : (begin end : D) (command : EventlessCommand g X begin end) (last : Standing) (stop : Option ℕ) (next : Standing) → LeadsEventless command last stop next → (db : Database) → IsFoundAt next db → IsFoundAt last db
  eventless_back begin end (checked checks) last stop next leads db found = from_held_back last next (g.state begin) (g.state end) stop leads db found
  eventless_back begin end (only_read unwritten) last stop next leads db found = at_last last next leads.1 db found
  eventless_back begin end (copied result blank copy copies) last stop next leads db found = at_last last next leads.0.1 db found
  eventless_back begin end (switched on result switches) last stop next leads db found = switched_back result last next (g.state begin) (g.state end) stop leads db found

module _ {D : Type 0} {g : Ghosts D} {X K M T C : Type 0} {k : SinkGhosts K} {m : SinkGhosts M} {t : TalkGhosts T} {c : ClientsGhosts C T} {Reads : ReadingRelation} where
  one_back : (begin end : D) (command : Command g X k m t c Reads begin end) (last : Standing) (stop : Option ℕ) (next : Standing) → AnsweredNothing command → Leads command last stop next
      → (db : Database) → IsFoundAt next db → IsFoundAt last db
  one_back begin end (ran (ran_script opened is script before ending after runs)) last stop next nothing leads db found = absurd nothing
  one_back begin end (ran (served_connections opened is asked before ending after serves)) last stop next nothing leads db found = absurd nothing
  one_back begin end (ran (served_clients opened is before ending after serves)) last stop next nothing leads db found = absurd nothing
  one_back begin end (ran (opened_none fault refused)) last stop next nothing leads db found = at_last last next leads.1 db found
  one_back begin end (eventless command) last stop next nothing leads db found = eventless_back begin end command last stop next leads db found

  pub all_back : (commands : List (StoppedCommand g X k m t c Reads)) (here next : Standing) → AllAnsweredNothing commands → LeadTo here commands next → (db : Database) → IsFoundAt next db → IsFoundAt here db
  all_back [] here next nothing leads db found = at_last here next leads db found
  all_back (it ∷ others) here next nothing leads db found =
      one_back it.begin it.end it.command here it.stop leads.0 nothing.0 leads.1 db (all_back others leads.0 next nothing.1 leads.2 db found)
