use Rattle.polled_clients.specs.Peers.{conversation_of}
use Rattle.polled_clients.proofs.Steps.{continues_stay}
use Rattle.polled_clients.proofs.peer.Peer.offer.Goals as goal

pub returns-then-is_some-clause-goes : goal.returns-then-is_some-clause-goes
returns-then-is_some-clause-goes g c = continues_stay g.T.Talk g.met.T.Talk.front_more g.met.T.Talk.bad_more (conversation_of g.C.Channel c.args.self.now)

pub returns-clause-goes : goal.returns-clause-goes
returns-clause-goes g c = continues_stay g.T.Talk g.met.T.Talk.front_more g.met.T.Talk.bad_more (conversation_of g.C.Channel c.args.self.now)
