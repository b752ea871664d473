use Rattle.std.proofs.Common.{◌≡◌, ◌+◌, ◌++◌, ℕ, List, length, drop, refl, ap, ◌∙◌, arith}
use Rattle.std.specs.Int.{w32, to_be_bytes}
use Rattle.std.proofs.lemmas.List.{take_at}
use Rattle.wire.specs.Sinks.{held_text}
use Rattle.wire.proofs.Sinks.{held_length, nine, laid_out}
use Rattle.wire.proofs.frame_buffer.FrameBuffer.lay_out.Goals as goal

pub returns-clause-frame : goal.returns-clause-frame
returns-clause-frame c =
    let buffer = c.args.self.now in
    let items = buffer.bytes.items in
    let held = held_text items buffer.used in
    let size : length held ≡ buffer.used = held_length items buffer.used buffer.sized buffer.fits in
    let counted : buffer.used + 5 ≡ 5 + length held = omega (arith, size) in
    let number : c.to_be_bytes.result ≡ to_be_bytes w32 (5 + length held) = c.to_be_bytes.ensures ∙ ap (to_be_bytes w32) counted in
    let session : c.to_be_bytes-2.result ≡ to_be_bytes w32 buffer.session = c.to_be_bytes-2.ensures in
    let head = nine (to_be_bytes w32 (5 + length held)) (to_be_bytes w32 buffer.session) in
    let was = c.deref_mut.result.now in
    let put : c.put_at.new.frame ≡ head ++ drop 9 items =
    c.put_at.ensures.bytes
    ∙ ap (λ (n : List ℕ). nine n c.to_be_bytes-2.result ++ drop 9 was) number
    ∙ ap (λ (s : List ℕ). nine (to_be_bytes w32 (5 + length held)) s ++ drop 9 was) session
    ∙ ap (λ (xs : List ℕ). head ++ drop 9 xs) c.deref_mut.ensures.value in
    laid_out items head _ buffer.used refl
    (take_at c.put_at.new.frame _ buffer.bytes.len (omega (arith, c.put_at.ensures.len, c.deref_mut.ensures.len)) ∙ put)
