use Rattle.std.proofs.Common.{◌≡◌, ◌∙◌, ◌+◌, ℕ, List, take, drop, ap, subst, sym}
use Rattle.std.specs.Io.KnownBytes.{append_known, Appends, Keeps}
use Rattle.channels.specs.Channels.{left}
use Rattle.channels.proofs.Going.{gone}
use Rattle.channels.proofs.send_queue.SendQueue.send.Goals as goal

pub returns-in-Bytes-clause-kept : goal.returns-in-Bytes-clause-kept
returns-in-Bytes-clause-kept g c =
    let taken = g.C.Channel.taken in
    let self = c.args.self.now in
    let queue = c.turn_over.new.self in
    let before = taken c.args.channel.now in
    let after = taken c.send.new.self in
    let unsent = left self.going.items self.sent self.said.items in
    let rest_is : c.behind-rest.result.now ≡ drop queue.sent queue.going.items = c.behind-rest.ensures ∙ ap (λ (l : List ℕ). drop queue.sent l) c.deref.ensures.value in
    let moved : Keeps (append_known before unsent) (append_known after (left queue.going.items (queue.sent + c.in-Bytes.count) queue.said.items)) =
    subst (λ (l : List ℕ). Keeps (append_known before l) (append_known after (left queue.going.items (queue.sent + c.in-Bytes.count) queue.said.items))) c.turn_over.ensures
    (gone before after queue.going.items queue.said.items queue.sent c.in-Bytes.count (subst (λ (l : List ℕ). Appends before after (take c.in-Bytes.count l)) rest_is c.in-Bytes.ensures.bytes)) in
    subst (λ (l : List ℕ). Keeps (append_known before unsent) (append_known after l)) (sym c.turn_over-in-Bytes.ensures) moved
