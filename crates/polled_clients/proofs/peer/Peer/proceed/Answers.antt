use Rattle.std.proofs.Common.{◌∙◌, [], Some, refl}
use Rattle.std.proofs.KnownBytes.{Keeps-refl}
use Rattle.std.specs.Io.KnownBytes.{append_known}
use Rattle.channels.specs.Channels.{left}
use Rattle.polled_clients.proofs.Steps.{continues_on}
use Rattle.polled_clients.specs.Peers.{conversation_of}
use Rattle.polled_clients.proofs.Steps.{quiet, ends_none}
use Rattle.polled_clients.proofs.peer.Peer.proceed.Goals as goal

pub returns-in-Some-clause-goes : goal.returns-in-Some-clause-goes
returns-in-Some-clause-goes g c =
    let mid = c.send_if_due.new.self in
    let of = conversation_of g.C.Channel in
    let new = record mid { end_cause = Some c.in-Some.end_cause } in
    continues_on g.T.Talk g.met.T.Talk.front_more g.met.T.Talk.bad_more (of c.args.self.now) (of mid) (of new) [] [] c.send_if_due.ensures.goes
    (quiet g.T.Talk (of mid) (of new) refl refl (Keeps-refl (g.C.Channel.remaining mid.channel)) (Keeps-refl (append_known (g.C.Channel.taken mid.channel) (left mid.queue.going.items mid.queue.sent mid.queue.said.items))) refl
    (ends_none mid.end_cause new.end_cause [] (c.send_if_due.ensures.end_cause ∙ c.requires)))

pub returns-in-None-clause-goes : goal.returns-in-None-clause-goes
returns-in-None-clause-goes g c =
    let of = conversation_of g.C.Channel in
    continues_on g.T.Talk g.met.T.Talk.front_more g.met.T.Talk.bad_more (of c.args.self.now) (of c.send_if_due.new.self) (of c.advance.new.self) [] [] c.send_if_due.ensures.goes c.advance.ensures.goes
