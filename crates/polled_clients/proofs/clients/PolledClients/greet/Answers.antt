use Rattle.polled_clients.specs.ClientStates.{states}
use Rattle.polled_clients.proofs.Placing.{moved_none}
use Rattle.polled_clients.proofs.clients.PolledClients.greet.Goals as goal

pub returns-then-self-gt0-clause-moved : goal.returns-then-self-gt0-clause-moved
returns-then-self-gt0-clause-moved g c = moved_none g.T.Talk g.C.Channel g.met.T.Talk.front_more g.met.T.Talk.bad_more (g.F.TalkMaker.makes c.args.self.now.maker) (states g.C.Channel g.A.Attend c.args.self.now)

pub returns-else-self-gt0-clause-moved : goal.returns-else-self-gt0-clause-moved
returns-else-self-gt0-clause-moved g c = c.greet_next.ensures.moved
