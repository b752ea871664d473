use Rattle.std.proofs.Common.{[]}
use Rattle.polled_clients.proofs.Steps.{continues_on}
use Rattle.polled_clients.specs.Peers.{conversation_of}
use Rattle.polled_clients.proofs.peer.Peer.listen.Goals as goal

pub returns-clause-goes : goal.returns-clause-goes
returns-clause-goes g c =
    let of = conversation_of g.C.Channel in
    let on = continues_on g.T.Talk g.met.T.Talk.front_more g.met.T.Talk.bad_more in
    on (of c.args.self.now) (of c.hear_on.new.self) (of c.send_if_due.new.self) [] []
    (on (of c.args.self.now) (of c.hear_next.new.self) (of c.hear_on.new.self) [] [] c.hear_next.ensures.goes c.hear_on.ensures.goes)
    c.send_if_due.ensures.goes
