use Rattle.std.proofs.Common.{true, refl}
use Rattle.polled_clients.specs.Peers.{conversation_of}
use Rattle.polled_clients.proofs.Steps.{quiet, keeps_same, ends_stay}
use Rattle.polled_clients.proofs.peer.Peer.send.Goals as goal

pub returns-in-Waits-clause-goes : goal.returns-in-Waits-clause-goes
returns-in-Waits-clause-goes g c =
    let self = c.args.self.now in
    let new = record self { queue = c.send.new.self; channel = c.send.new.channel; is_blocked = true } in
    let of = conversation_of g.C.Channel in
    quiet g.T.Talk (of self) (of new) refl refl (keeps_same (g.C.Channel.remaining self.channel) (g.C.Channel.remaining new.channel) c.send.ensures.remaining) c.send.ensures.kept refl (ends_stay self.end_cause)

pub returns-in-Moves-clause-goes : goal.returns-in-Moves-clause-goes
returns-in-Moves-clause-goes g c =
    let self = c.args.self.now in
    let new = record self { queue = c.send.new.self; channel = c.send.new.channel; has_moved = true } in
    let of = conversation_of g.C.Channel in
    quiet g.T.Talk (of self) (of new) refl refl (keeps_same (g.C.Channel.remaining self.channel) (g.C.Channel.remaining new.channel) c.send.ensures.remaining) c.send.ensures.kept refl (ends_stay self.end_cause)

pub returns-in-Done-clause-goes : goal.returns-in-Done-clause-goes
returns-in-Done-clause-goes g c =
    let self = c.args.self.now in
    let new = record self { queue = c.send.new.self; channel = c.send.new.channel } in
    let of = conversation_of g.C.Channel in
    quiet g.T.Talk (of self) (of new) refl refl (keeps_same (g.C.Channel.remaining self.channel) (g.C.Channel.remaining new.channel) c.send.ensures.remaining) c.send.ensures.kept refl (ends_stay self.end_cause)
