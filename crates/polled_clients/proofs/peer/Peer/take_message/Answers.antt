use Rattle.std.proofs.Common.{◌≡◌, ◌≤◌, ◌<◌, ◌^◌, ◌∙◌, ◌+◌, length, arith, ℕ, List, [], take, drop, refl, sym, ap, subst}
use Rattle.std.proofs.lemmas.List.{drop-drop, length-drop, length-take-le}
use Rattle.polled_clients.specs.Peers.{conversation_of}
use Rattle.polled_clients.proofs.Steps.{talked, heard_message, heard_broken, said_last, nothing_said, ends_none}
use Rattle.polled_clients.proofs.peer.Peer.take_message.Goals as goal

pub returns-in-Ok-clause-goes : goal.returns-in-Ok-clause-goes
returns-in-Ok-clause-goes g c =
    let self = c.args.self.now in
    let new = record self { talk = c.hear.new.self; heard = self.heard + c.args.size; queue = record self.queue { said = c.hear.new.out } } in
    let it = c.in-Ok.ensures.ok in
    talked g.T.Talk (conversation_of g.C.Channel self) (conversation_of g.C.Channel new) [] it.0
    (heard_message g.T.Talk self.talk c.hear.new.self (drop self.heard self.held.items) it.0 (drop (self.heard + c.args.size) self.held.items) c.args.size c.requires.wants c.requires.whole
    (subst (λ (l : List ℕ). g.T.Talk.hears self.talk (take c.args.size l) it.0 c.hear.new.self) (c.behind.ensures ∙ ap (λ (l : List ℕ). drop self.heard l) c.deref.ensures.value) it.1) (sym (drop-drop c.args.size self.heard self.held.items)))
    refl refl (said_last (drop self.queue.sent self.queue.going.items) self.queue.said.items c.hear.new.out.items it.0 it.2) refl (ends_none self.end_cause self.end_cause [] c.requires.running)

pub returns-in-Err-clause-goes : goal.returns-in-Err-clause-goes
returns-in-Err-clause-goes g c =
    let self = c.args.self.now in
    let new = record self { talk = c.hear.new.self; queue = record self.queue { said = c.hear.new.out } } in
    let it = c.in-Err.ensures.err in
    talked g.T.Talk (conversation_of g.C.Channel self) (conversation_of g.C.Channel new) [] [] (heard_broken g.T.Talk self.talk c.hear.new.self (drop self.heard self.held.items) it.0)
    refl refl (nothing_said (drop self.queue.sent self.queue.going.items) self.queue.said.items c.hear.new.out.items it.1) refl (ends_none self.end_cause self.end_cause [] c.requires.running)

pub slice_bounds-message-end : goal.slice_bounds-message-end
slice_bounds-message-end g c =
    let self = c.args.self.now in
    let fits : c.args.size ≤ length (drop self.heard self.held.items) = (g.met.T.Talk.front_more self.talk (drop self.heard self.held.items) [] c.args.size c.requires.whole).0 in
    let rest : c.behind.result.now ≡ drop self.heard self.held.items = c.behind.ensures ∙ ap (λ (l : List ℕ). drop self.heard l) c.deref.ensures.value in
    sym (length-take-le c.args.size c.behind.result.now (subst (λ (l : List ℕ). c.args.size ≤ length l) (sym rest) fits))

pub overflow_add-self : goal.overflow_add-self
overflow_add-self g c =
    let self = c.args.self.now in
    let fits : c.args.size ≤ length (drop self.heard self.held.items) = (g.met.T.Talk.front_more self.talk (drop self.heard self.held.items) [] c.args.size c.requires.whole).0 in
    let small : length self.held.items < 2 ^ 64 = subst (λ (l : List ℕ). length l < 2 ^ 64) c.deref.ensures.value c.deref.type_inv.0 in
    omega (arith, fits, small, length-drop self.heard self.held.items)
