use Rattle.polled_clients.specs.ClientStates.{states}
use Rattle.polled_clients.proofs.Locking.{look_cuts}
use Rattle.polled_clients.proofs.Placing.{moved_none}
use Rattle.polled_clients.proofs.clients.PolledClients.look_at_holder.Goals as goal

pub returns-clause-moved : goal.returns-clause-moved
returns-clause-moved g c = moved_none g.T.Talk g.C.Channel g.met.T.Talk.front_more g.met.T.Talk.bad_more (g.F.TalkMaker.makes c.args.self.now.maker) (states g.C.Channel g.A.Attend c.args.self.now)

pub returns-clause-contention : goal.returns-clause-contention
returns-clause-contention g c = look_cuts c.asked.result c.args.self.now.time c.args.self.now.lock c.look.new.self c.look.ensures
