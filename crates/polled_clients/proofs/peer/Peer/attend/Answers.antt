use Rattle.polled_clients.specs.Peers.{conversation_of}
use Rattle.polled_clients.proofs.Steps.{continues_stay}
use Rattle.polled_clients.proofs.peer.Peer.attend.Goals as goal

pub returns-then-has_cause-clause-goes : goal.returns-then-has_cause-clause-goes
returns-then-has_cause-clause-goes g c = continues_stay g.T.Talk g.met.T.Talk.front_more g.met.T.Talk.bad_more (conversation_of g.C.Channel c.args.self.now)

pub returns-else-has_cause-clause-goes : goal.returns-else-has_cause-clause-goes
returns-else-has_cause-clause-goes g c = continues_stay g.T.Talk g.met.T.Talk.front_more g.met.T.Talk.bad_more (conversation_of g.C.Channel c.args.self.now)
