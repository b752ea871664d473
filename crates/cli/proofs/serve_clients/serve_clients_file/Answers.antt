use Rattle.cli.specs.OpenPlaces.{open_lines}
use Rattle.cli.proofs.ServedClients.{clients_served_so}
use Rattle.cli.proofs.serve_clients.serve_clients_file.Goals as goal

pub returns : goal.returns
returns g c =
    clients_served_so g.row.X.Denot g.Y.Device.Device g.Y.Listener.Attend _ _ g.X.EventHandler.Reads (g.Y.System.state c.args.system.now) (g.Y.System.state c.open_database_in.new.system) (g.Y.System.state c.serve_clients_at-left.new.system)
    (g.Y.System.state c.close.new.self) c.args.path.now c.args.place.place (open_lines c.args.told.now) (g.F.TalkMaker.makes c.args.maker) c.args.many c.tell_migration-migration_told.result (g.E.Write.contents c.args.err.now) (g.E.Write.contents c.tell_migration-migration_told.new.err)
    (g.E.Write.contents c.serve_clients_at-left.new.err) c.in-Ok.opened c.in-Ok.ensures.opens c.in-Ok.ensures.renewed c.tell_migration-migration_told.ensures c.serve_clients_at-left.result.1 c.serve_clients_at-left.result.0 c.close.ensures.closed c.close.ensures.others
    c.close.ensures.counts c.serve_clients_at-left.ensures
