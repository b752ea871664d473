use Rattle.std.proofs.Common.{[], drop, refl, sym}
use Rattle.std.proofs.lemmas.List.{append-nil}
use Rattle.channels.specs.Channels.{left}
use Rattle.polled_clients.specs.Peers.{conversation_of}
use Rattle.polled_clients.proofs.Steps.{talked, heard_broken, ends_none}
use Rattle.polled_clients.proofs.peer.Peer.give_up.Goals as goal

pub returns-clause-goes : goal.returns-clause-goes
returns-clause-goes g c =
    let self = c.args.self.now in
    let new = record self { talk = c.give_up.new.self } in
    talked g.T.Talk (conversation_of g.C.Channel self) (conversation_of g.C.Channel new) [] [] (heard_broken g.T.Talk self.talk c.give_up.new.self (drop self.heard self.held.items) c.give_up.ensures)
    refl refl (sym (append-nil (left self.queue.going.items self.queue.sent self.queue.said.items))) refl (ends_none self.end_cause self.end_cause [] c.requires)
