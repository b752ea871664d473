use Rattle.polled_clients.specs.Peers.{conversation_of}
use Rattle.polled_clients.proofs.Steps.{continues_stay}
use Rattle.polled_clients.proofs.peer.Peer.hear.Goals as goal

pub returns-in-Nothing-clause-goes : goal.returns-in-Nothing-clause-goes
returns-in-Nothing-clause-goes g c = continues_stay g.T.Talk g.met.T.Talk.front_more g.met.T.Talk.bad_more (conversation_of g.C.Channel c.args.self.now)
