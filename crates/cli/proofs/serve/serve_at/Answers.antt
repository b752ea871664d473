use Rattle.cli.proofs.Changes.{at_joined}
use Rattle.cli.proofs.Served.{served_at}
use Rattle.systems.specs.Places.{the_place}
use Rattle.cli.proofs.serve.serve_at.Goals as goal

pub returns : goal.returns
returns g c =
    let old = g.Y.System.state c.args.system.now in
    let mid = g.Y.System.state c.bind.new.self in
    let new = g.Y.System.state c.unbind.new.self in
    let bind = c.in-Ok.ensures in
    served_at g.Y.Device.Device g.Y.Listener.Sink.Sink g.X.EventHandler.Reads g.Y.Listener.Listen.listening old new c.args.place c.in-Ok.bound.1 c.args.limits.connections c.args.server (g.E.Write.contents c.args.err.now)
    (g.E.Write.contents c.serve_on-left.new.err) c.in-Ok.bound.0 c.serve_on-left.new.listener c.serve_on-left.result.0 (record {
      kind = bind.kind;
      asked = bind.place;
      heard = bind.heard;
      unbound = λ is. c.unbind.ensures.unbound ((bind.others is).faithful is) (bind.bound is);
      others = λ is. at_joined (the_place c.in-Ok.bound.1) old mid new (bind.others is) (c.unbind.ensures.others ((bind.others is).faithful is));
    }) c.serve_on-left.result.1 c.serve_on-left.ensures
