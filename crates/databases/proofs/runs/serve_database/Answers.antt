use Rattle.std.proofs.Common.{◌∙◌, ap, sym, subst}
use Rattle.journal_store.specs.DeviceStores.{device_of, store_state}
use Rattle.databases.specs.Answered.{IsOfListener, LivesFrom}
use Rattle.databases.proofs.DeviceLiving.{connections_life}
use Rattle.databases.proofs.runs.serve_database.Goals as goal

pub returns : goal.returns
returns g c =
    let last = c.serve_listener-served.new.server in
    let serves = c.serve_listener-served.ensures.serves in
    let left_is = c.into_device.ensures ∙ ap (λ s. device_of s) c.into_store.ensures in
    record {
      last = last;
      history = c.serve_listener-served.ensures.history;
      serves = serves;
      ran = c.serve_listener-served.ensures.runs;
      stopped = c.serve_listener-served.ensures.stopped;
      refused = c.serve_listener-served.ensures.refused;
      closed = c.serve_listener-served.ensures.left;
      left_is = left_is;
      life = subst (λ (left : _). LivesFrom g.D.Device g.X.EventHandler.Reads c.args.server (IsOfListener g.X.EventHandler.Reads store_state g.L.Sink.Sink c.args.server last (g.L.Listen.listening c.args.listener.now) serves) (g.D.Device.state left)) (sym left_is)
          (connections_life g.met.D.Device.only_now (λ device faithful s lt. g.met.D.Device.content_left device s faithful lt) c.one_database.ensures g.X.EventHandler.Reads g.L.Sink.Sink
          c.args.server last (g.L.Listen.listening c.args.listener.now) serves.between serves.connections c.serve_listener-served.ensures.history serves.each);
    }
