use Rattle.std.proofs.Common.{[], rules}
use Rattle.polled_clients.specs.Peers.{Goes}
use Rattle.polled_clients.proofs.Placing.{goes_same}
use Rattle.polled_clients.proofs.peers.rouse.Goals as goal

pub returns-in-Some-clause-here : goal.returns-in-Some-clause-here
returns-in-Some-clause-here g c =
    let goes : Goes g.T.Talk g.C.Channel c.in-Some.peer.now [] c.rouse.new.self = goes_same g.T.Talk g.C.Channel g.met.T.Talk.front_more g.met.T.Talk.bad_more c.in-Some.peer.now c.rouse.new.self c.rouse.ensures.conversation in
    search rules
