use Rattle.std.proofs.Common.{[], drop, refl}
use Rattle.polled_clients.specs.Peers.{conversation_of}
use Rattle.polled_clients.proofs.Steps.{talked, heard_bad, heard_broken, said_last, nothing_said, ends_none}
use Rattle.polled_clients.proofs.peer.Peer.reject.Goals as goal

pub returns-in-Ok-clause-goes : goal.returns-in-Ok-clause-goes
returns-in-Ok-clause-goes g c =
    let self = c.args.self.now in
    let new = record self { talk = c.reject.new.self; queue = record self.queue { said = c.reject.new.out } } in
    let it = c.in-Ok.ensures.ok in
    talked g.T.Talk (conversation_of g.C.Channel self) (conversation_of g.C.Channel new) [] it.0 (heard_bad g.T.Talk self.talk c.reject.new.self (drop self.heard self.held.items) it.0 c.requires.wants c.requires.bad it.1)
    refl refl (said_last (drop self.queue.sent self.queue.going.items) self.queue.said.items c.reject.new.out.items it.0 it.2) refl (ends_none self.end_cause self.end_cause [] c.requires.running)

pub returns-in-Err-clause-goes : goal.returns-in-Err-clause-goes
returns-in-Err-clause-goes g c =
    let self = c.args.self.now in
    let new = record self { talk = c.reject.new.self; queue = record self.queue { said = c.reject.new.out } } in
    let it = c.in-Err.ensures.err in
    talked g.T.Talk (conversation_of g.C.Channel self) (conversation_of g.C.Channel new) [] [] (heard_broken g.T.Talk self.talk c.reject.new.self (drop self.heard self.held.items) it.0)
    refl refl (nothing_said (drop self.queue.sent self.queue.going.items) self.queue.said.items c.reject.new.out.items it.1) refl (ends_none self.end_cause self.end_cause [] c.requires.running)
