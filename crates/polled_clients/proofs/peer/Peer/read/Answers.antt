use Rattle.std.proofs.Common.{◌∙◌, ◌++◌, ℕ, [], true, take, drop, refl, sym, ap}
use Rattle.std.specs.Io.KnownBytes.{append_known}
use Rattle.channels.specs.Channels.{left}
use Rattle.polled_clients.specs.Peers.{conversation_of}
use Rattle.polled_clients.proofs.Steps.{quiet, received, none_came, keeps_same, ends_none}
use Rattle.polled_clients.proofs.peer.Peer.read.Goals as goal

pub returns-in-Bytes-clause-goes : goal.returns-in-Bytes-clause-goes
returns-in-Bytes-clause-goes g c =
    let self = c.args.self.now in
    let new = record self { channel = c.receive.new.self; held = c.keep.new.held; has_moved = true } in
    let piece = take c.in-Bytes.count c.receive.new.buffer in
    let of = conversation_of g.C.Channel in
    received g.T.Talk (of self) (of new) piece refl
    (ap (λ (n : ℕ). drop n new.held.items) c.requires.heard ∙ (c.keep.ensures ∙ ap (λ (n : ℕ). drop n self.held.items ++ piece) (sym c.requires.heard)))
    c.in-Bytes.ensures.bytes (ap (λ o. append_known o (left self.queue.going.items self.queue.sent self.queue.said.items)) c.receive.ensures.taken) refl (ends_none self.end_cause self.end_cause [] c.requires.running)

pub returns-in-Nothing : goal.returns-in-Nothing
returns-in-Nothing g c =
    let self = c.args.self.now in
    let new = record self { channel = c.receive.new.self; is_quiet = true } in
    let of = conversation_of g.C.Channel in
    let keeps = none_came (g.C.Channel.remaining self.channel) (g.C.Channel.remaining new.channel) c.receive.result c.receive.new.buffer c.in-Nothing.is c.receive.ensures.bytes in
    let unsent = left self.queue.going.items self.queue.sent self.queue.said.items in
    let told = keeps_same (append_known (g.C.Channel.taken self.channel) unsent) (append_known (g.C.Channel.taken new.channel) unsent) (ap (λ o. append_known o unsent) c.receive.ensures.taken) in
    record { session = refl; goes = quiet g.T.Talk (of self) (of new) refl refl keeps told refl (ends_none self.end_cause self.end_cause [] c.requires.running); end_cause = c.requires.running }
