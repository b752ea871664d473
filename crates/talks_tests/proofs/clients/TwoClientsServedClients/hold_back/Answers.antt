use Rattle.talks_tests.specs.TwoClients.{states}
use Rattle.talks_tests.proofs.Two.{moved_none}
use Rattle.talks_tests.proofs.clients.TwoClientsServedClients.hold_back.Goals as goal

pub returns-then-client-eq0-clause-moved : goal.returns-then-client-eq0-clause-moved
returns-then-client-eq0-clause-moved g c = moved_none g.T.Talk g.met.T.Talk.front_more g.met.T.Talk.bad_more (states c.args.self.now)

pub returns-else-client-eq0-clause-moved : goal.returns-else-client-eq0-clause-moved
returns-else-client-eq0-clause-moved g c = moved_none g.T.Talk g.met.T.Talk.front_more g.met.T.Talk.bad_more (states c.args.self.now)
