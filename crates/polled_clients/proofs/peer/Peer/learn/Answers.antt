use Rattle.std.proofs.Common.{false, [], ◌∷◌, drop, None, refl}
use Rattle.talks.specs.Wants.{learnt}
use Rattle.polled_clients.specs.Peers.{conversation_of}
use Rattle.polled_clients.proofs.Steps.{talked, heard_reply, heard_lost, said_last, nothing_said, ends_none}
use Rattle.polled_clients.proofs.peer.Peer.learn.Goals as goal

pub returns-in-Ok-clause-goes : goal.returns-in-Ok-clause-goes
returns-in-Ok-clause-goes g c =
    let self = c.args.self.now in
    let new = record self { talk = c.learn.new.self; queue = record self.queue { said = c.learn.new.out }; waits_until = None; has_waited = false } in
    let it = c.in-Ok.ensures.ok in
    let x = learnt (g.T.Talk.wants self.talk) c.args.reply in
    talked g.T.Talk (conversation_of g.C.Channel self) (conversation_of g.C.Channel new) (x ∷ []) it.0 (heard_reply g.T.Talk self.talk c.learn.new.self (drop self.heard self.held.items) it.0 x refl c.requires.fits it.1)
    refl refl (said_last (drop self.queue.sent self.queue.going.items) self.queue.said.items c.learn.new.out.items it.0 it.2) refl (ends_none self.end_cause self.end_cause (x ∷ []) c.requires.running)

pub returns-in-Err-clause-goes : goal.returns-in-Err-clause-goes
returns-in-Err-clause-goes g c =
    let self = c.args.self.now in
    let new = record self { talk = c.learn.new.self; queue = record self.queue { said = c.learn.new.out }; waits_until = None; has_waited = false } in
    let it = c.in-Err.ensures.err in
    let x = learnt (g.T.Talk.wants self.talk) c.args.reply in
    talked g.T.Talk (conversation_of g.C.Channel self) (conversation_of g.C.Channel new) (x ∷ []) [] (heard_lost g.T.Talk self.talk c.learn.new.self (drop self.heard self.held.items) x refl c.requires.fits it.0)
    refl refl (nothing_said (drop self.queue.sent self.queue.going.items) self.queue.said.items c.learn.new.out.items it.1) refl (ends_none self.end_cause self.end_cause (x ∷ []) c.requires.running)
