use Rattle.cli.proofs.ServingOrders.{many_performed, places_performed}
use Rattle.cli.proofs.program.perform.Goals as goal

pub returns-in-ServeClients : goal.returns-in-ServeClients
returns-in-ServeClients g c =
    let old = g.Y.System.state c.args.system.now in
    let new = g.Y.System.state c.serve_at.new.system in
    many_performed g.row.X.Denot g.Y.Device.Device g.K.Sink g.Y.Listener.Sink.Sink g.Y.Listener.Attend _ _ _ _ _ _ _ _ _ _ g.Y.Draw.Draw.draws g.X.EventHandler.Reads g.Y.Listener.Listen.listening g.Y.System.state old c.args.order.now c.in-ServeClients.file c.in-ServeClients.place
    c.in-ServeClients.many c.serve_at.result new c.args.out.now (g.E.Write.contents c.args.err.now) (g.E.Write.contents c.serve_at.new.err) c.in-ServeClients.is c.serve_at.ensures

pub returns-in-ServePlaces : goal.returns-in-ServePlaces
returns-in-ServePlaces g c =
    let old = g.Y.System.state c.args.system.now in
    let new = g.Y.System.state c.serve_places.new.system in
    places_performed g.row.X.Denot g.Y.Device.Device g.K.Sink g.Y.Listener.Sink.Sink g.Y.Listener.Attend _ _ _ _ _ _ _ _ _ _ g.Y.Draw.Draw.draws g.X.EventHandler.Reads g.Y.Listener.Listen.listening g.Y.System.state old c.args.order.now c.in-ServePlaces.file c.in-ServePlaces.places c.as_slice.result.now
    c.in-ServePlaces.many c.serve_places.result new c.args.out.now (g.E.Write.contents c.args.err.now) (g.E.Write.contents c.serve_places.new.err) c.in-ServePlaces.is c.as_slice.ensures.value c.serve_places.ensures
