use Rattle.std.proofs.Common.{◌∙◌, [], refl, sym}
use Rattle.std.proofs.KnownBytes.{Keeps-refl}
use Rattle.std.proofs.lemmas.List.{append-nil}
use Rattle.std.specs.Io.KnownBytes.{append_known}
use Rattle.channels.specs.Channels.{left}
use Rattle.polled_clients.proofs.Steps.{continues_on}
use Rattle.polled_clients.specs.Peers.{conversation_of}
use Rattle.polled_clients.proofs.Steps.{quiet, talked, heard_broken_at, ends_stay, ends_none}
use Rattle.polled_clients.proofs.peer.Peer.receive.Goals as goal

pub returns-in-Ok-clause-goes : goal.returns-in-Ok-clause-goes
returns-in-Ok-clause-goes g c =
    let self = c.args.self.now in
    let mid = record self { held = c.make_room.new.held; heard = 0 } in
    let of = conversation_of g.C.Channel in
    continues_on g.T.Talk g.met.T.Talk.front_more g.met.T.Talk.bad_more (of self) (of mid) (of c.read.new.self) [] []
    (quiet g.T.Talk (of self) (of mid) refl (c.make_room.ensures.held ∙ c.drop_front.ensures) (Keeps-refl (g.C.Channel.remaining self.channel)) (Keeps-refl (append_known (g.C.Channel.taken self.channel) (left self.queue.going.items self.queue.sent self.queue.said.items))) refl (ends_stay self.end_cause))
    c.read.ensures.goes

pub returns-in-Err-clause-goes : goal.returns-in-Err-clause-goes
returns-in-Err-clause-goes g c =
    let self = c.args.self.now in
    let new = record self { held = c.make_room.new.held; heard = 0; talk = c.give_up.new.self } in
    let of = conversation_of g.C.Channel in
    talked g.T.Talk (of self) (of new) [] [] (heard_broken_at g.T.Talk self.talk new.talk ((of self).held) ((of new).held) c.give_up.ensures (c.make_room.ensures.held ∙ c.drop_front.ensures))
    refl refl (sym (append-nil (left self.queue.going.items self.queue.sent self.queue.said.items))) refl (ends_none self.end_cause self.end_cause [] c.requires)
