use Rattle.server.proofs.Clients.{none_own}
use Rattle.server.proofs.server.Server.close_next.Goals as goal

pub returns-in_default-clause-none : goal.returns-in_default-clause-none
returns-in_default-clause-none g c is running w at = none_own c.args.client w.standing.machine.sessions (c.in_default.ensures w at)
