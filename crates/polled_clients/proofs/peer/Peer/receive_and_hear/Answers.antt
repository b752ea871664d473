use Rattle.std.proofs.Common.{[]}
use Rattle.polled_clients.proofs.Steps.{continues_on}
use Rattle.polled_clients.specs.Peers.{conversation_of}
use Rattle.polled_clients.proofs.peer.Peer.receive_and_hear.Goals as goal

pub returns-then-is_message-clause-goes : goal.returns-then-is_message-clause-goes
returns-then-is_message-clause-goes g c =
    let of = conversation_of g.C.Channel in
    continues_on g.T.Talk g.met.T.Talk.front_more g.met.T.Talk.bad_more (of c.args.self.now) (of c.receive.new.self) (of c.hear.new.self) [] [] c.receive.ensures.goes c.hear.ensures.goes
