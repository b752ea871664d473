use Rattle.std.proofs.Common.{◌+◌, ◌++◌, ℕ, List, length, take, drop, ap, ◌∙◌, arith}
use Rattle.std.proofs.lemmas.List.{take_at}
use Rattle.wire.proofs.Sinks.{held_more}
use Rattle.wire.proofs.frame_buffer.FrameBuffer.hold.Goals as goal

pub returns-clause-text : goal.returns-clause-text
returns-clause-text c =
    let items = c.args.self.now.bytes.items in
    let used = c.args.self.now.used in
    let piece = c.args.piece.now in
    held_more items piece _ used c.args.self.now.sized c.requires
    (take_at c.put_at.new.frame _ c.args.self.now.bytes.len (omega (arith, c.put_at.ensures.len, c.deref_mut.ensures.len))
    ∙ c.put_at.ensures.bytes
    ∙ ap (λ (xs : List ℕ). take (9 + used) xs ++ (piece ++ drop (9 + used + length piece) xs)) c.deref_mut.ensures.value)
