use Rattle.std.proofs.Common.{◌∙◌, refl, ap, sym, subst}
use Rattle.journal_store.specs.DeviceStores.{device_of, store_state}
use Rattle.abstract_database.specs.Runs.{At}
use Rattle.server.specs.Standing.{Represents}
use Rattle.wire.specs.Closing.{LeavesNoSession}
use Rattle.served_clients.specs.Spelled.{of_turns}
use Rattle.served_clients.specs.Taken.{RunsEach, TakesEach}
use Rattle.served_clients.proofs.Running.{runs}
use Rattle.served_clients.proofs.Stepping.{turns}
use Rattle.databases.specs.Answered.{LivesFrom}
use Rattle.databases.specs.Clients.{IsOfTurns}
use Rattle.databases.proofs.DeviceLiving.{clients_life}
use Rattle.databases.proofs.Leaving.{leaves_none}
use Rattle.databases.proofs.Serving.{taken_history, turns_stay}
use Rattle.databases.proofs.runs.serve_clients_on.Goals as goal

pub returns : goal.returns
returns g c =
    let Reads = g.X.EventHandler.Reads in
    let talk = g.T.Talk in
    let clients = g.C.ServedClients in
    let opened = c.args.server in
    let first = c.new-machine.result in
    let last = c.serve_clients-end.new.machine in
    let before = c.args.clients.now in
    let after = c.serve_clients-end.new.clients in
    let serves = c.serve_clients-end.ensures in
    let first_is = c.new-machine.ensures in
    let taken = of_turns Reads store_state talk clients first before serves.turns last after serves.took in
    let each : TakesEach Reads store_state opened taken last.server =
    subst (λ (s : _). TakesEach Reads store_state s taken last.server) first_is (turns Reads store_state talk clients first before serves.turns last after serves.took) in
    let history = taken_history Reads store_state opened last.server taken each in
    let left_is = c.into_device.ensures ∙ ap (λ s. device_of s) c.into_store.ensures ∙ ap (λ server. device_of server.store) c.into_server.ensures in
    let ran : (w : At) → (store_state opened.store).sound → Represents store_state opened w → RunsEach Reads store_state opened w taken last.server =
    λ w sound here. runs Reads store_state opened last.server taken w each sound here in
    record {
      first = first;
      first_is = first_is;
      last = last;
      history = history;
      serves = serves;
      ran = ran;
      refused = λ stopped. turns_stay Reads store_state talk clients first before serves.turns last after serves.took (ap (λ server. server.stopped) first_is ∙ stopped) ∙ first_is;
      closed = λ sound left nobody.
          let end = ran left.0 sound left.1 in
          leaves_none Reads store_state talk clients _ first before c.serve_clients-end.result last after serves
          (subst (λ (s : _). (store_state s.store).sound) (sym first_is) sound) (subst (λ (s : _). LeavesNoSession store_state s) (sym first_is) left) nobody end.0 end.1;
      left_is = left_is;
      life = subst (λ (left : _). LivesFrom g.D.Device Reads opened (IsOfTurns Reads store_state talk clients first before serves.turns last after serves.took) (g.D.Device.state left)) (sym left_is)
          (clients_life g.met.D.Device.only_now (λ device faithful s lt. g.met.D.Device.content_left device s faithful lt) c.one_database.ensures Reads
          opened last.server talk clients first last before after serves.turns first_is refl history serves.took);
    }
