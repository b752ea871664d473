use Rattle.polled_clients.specs.ClientStates.{states}
use Rattle.polled_clients.proofs.Placing.{moved_none}
use Rattle.polled_clients.proofs.clients.PolledClients.look_at_index.Goals as goal

pub returns-in_default-clause-moved : goal.returns-in_default-clause-moved
returns-in_default-clause-moved g c = moved_none g.T.Talk g.C.Channel g.met.T.Talk.front_more g.met.T.Talk.bad_more (g.F.TalkMaker.makes c.args.self.now.maker) (states g.C.Channel g.A.Attend c.args.self.now)
