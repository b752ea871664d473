-- Runs follow each other, by induction over them.
use Rattle.std.proofs.Common.{ℕ, ⊎_elim, List, [], ◌∷◌, Option, Some, refl}
use Rattle.sector_device.specs.Device.{DeviceState, IsLeft}
use Rattle.sector_device.specs.declared.device.Device.{Ghosts}
use Rattle.store.specs.Store.{Contents}
use Rattle.abstract_database.specs.Runs.{ReadingRelation, Standing}
use Rattle.wire.specs.declared.sink.Sink.{Ghosts as SinkGhosts}
use Rattle.talks.specs.declared.talk.Talk.{Ghosts as TalkGhosts}
use Rattle.talks.specs.declared.clients.ServedClients.{Ghosts as ClientsGhosts}
use Rattle.databases.specs.Lives.{IsFoundLeft, LeavesFound, IsNoLife}
use Rattle.databases.specs.Stopping.{is_left_by, IsWithin}
use Rattle.databases.proofs.GoingOn.{none_at, stopped_at}
use Rattle.databases.proofs.Living.{means_is}
use Rattle.databases.specs.declared.fault.DatabaseFault.{DatabaseFault}
use Rattle.databases.specs.Databases.{records_on}
use Rattle.databases.specs.Openings.{IsRefused}
use Rattle.databases.specs.DeviceFollowing.{Did, ran_script, served_connections, served_clients, opened_none, Run, AreStopped, LeadsOn, GoOn}
use Rattle.databases.proofs.DeviceLiving.{found_before, found_same}

-- a device on which none was opened leaves what it may have been left with
refused_leaves : (d e : DeviceState) (fault : DatabaseFault) (last : Standing) → IsLeft d d.content → LeavesFound last (records_on d) → IsRefused d fault e → IsNoLife last (records_on d) (records_on e)
refused_leaves d e fault last content found refused =
    ⊎_elim
    (λ untried. found_before d e last found untried.1)
    (λ tried.
    let here = found (Some tried.holds.contents) (d.content, content, tried.holds.has) in
    found_same d e last found here.0 here.2
    (tried.leaves here.0 (record { contents = tried.holds.contents; has = tried.holds.has; stands = means_is tried.holds.contents here.0 here.1 })))
    refused.outcome

module _ {D : Type 0} {g : Ghosts D} {X K M T C : Type 0} {k : SinkGhosts K} {m : SinkGhosts M} {t : TalkGhosts T} {c : ClientsGhosts C T} {Reads : ReadingRelation}
    (content_left : (device : D) → (g.state device).faithful → IsLeft (g.state device) (g.state device).content) where
  -- where a run leads, and what its stop leaves
  abbrev Goes : (begin end : D) → Did g X k m t c Reads begin end → Standing → Option ℕ → Type 0
  Goes begin end did last stop = (next : Standing) × LeadsOn did last stop next × ((x : Option Contents) → is_left_by stop (records_on (g.state end)) x → IsFoundLeft next x)

  goes : (begin end : D) (did : Did g X k m t c Reads begin end) (last : Standing) (stop : Option ℕ) → (g.state begin).faithful → LeavesFound last (records_on (g.state begin))
      → IsWithin stop (records_on (g.state begin)) (records_on (g.state end)) → Goes begin end did last stop
  goes begin end (ran_script opened is script before ending after runs) last stop faithful found within =
      let life = runs.life begin opened refl is faithful last found in
      let to = stopped_at Reads last (records_on (g.state begin)) (records_on (g.state end)) life.0.events life.0.answers life.0.moments life.2.0 stop within in
      (to.0, (life.0, life.1, (life.2, to.1)), to.2)
  goes begin end (served_connections opened is asked before ending after serves) last stop faithful found within =
      let life = serves.life begin opened refl is faithful last found in
      let to = stopped_at Reads last (records_on (g.state begin)) (records_on (g.state end)) life.0.events life.0.answers life.0.moments life.2.0 stop within in
      (to.0, (life.0, life.1, (life.2, to.1)), to.2)
  goes begin end (served_clients opened is before ending after serves) last stop faithful found within =
      let life = serves.life begin opened refl is faithful last found in
      let to = stopped_at Reads last (records_on (g.state begin)) (records_on (g.state end)) life.0.events life.0.answers life.0.moments life.2.0 stop within in
      (to.0, (life.0, life.1, (life.2, to.1)), to.2)
  goes begin end (opened_none fault refused) last stop faithful found within =
      let none = refused_leaves (g.state begin) (g.state end) fault last (content_left begin faithful) found refused in
      (last, (none, refl), none_at Reads last (records_on (g.state begin)) (records_on (g.state end)) none stop within)

  pub go_on : (left : Option Contents → Type 0) (runs : List (Run g X k m t c Reads)) (s : Standing) → ((x : Option Contents) → left x → IsFoundLeft s x) → AreStopped left runs → GoOn s runs
  go_on left [] s found stopped = tt
  go_on left (run ∷ runs) s found stopped =
      let went = goes run.begin run.end run.did s run.stop stopped.0 (λ x is. found x (stopped.1 x is)) stopped.2 in
      (went.0, went.1, go_on (is_left_by run.stop (records_on (g.state run.end))) runs went.0 went.2 stopped.3)
