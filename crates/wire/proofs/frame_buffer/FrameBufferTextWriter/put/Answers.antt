use Rattle.std.proofs.Common.{◌≡◌, ◌-◌, ◌++◌, ℕ, List, length, drop, sym, ap, ◌∙◌, arith}
use Rattle.std.proofs.lemmas.List.{take-append-drop}
use Rattle.wire.specs.Frame.{frame}
use Rattle.wire.specs.Sinks.{held_text, appends_joined}
use Rattle.wire.proofs.Sinks.{cut_on, held_length}
use Rattle.wire.proofs.frame_buffer.FrameBufferTextWriter.put.Goals as goal

pub loop-self-preserved : goal.loop-self-preserved
loop-self-preserved g c =
    let I = c.loop-self.invariant in
    let buffer = c.loop-self.self in
    let held = held_text buffer.bytes.items buffer.used in
    let front = c.split_at.result.0.now in
    let behind = c.split_at.result.1.now in
    let full = held_text c.hold.new.self.bytes.items c.hold.new.self.used in
    let parts : c.loop-self.rest.now ≡ front ++ behind =
    sym (take-append-drop (131067 - buffer.used) c.loop-self.rest.now) ∙ ap (λ (x : List ℕ). x ++ drop (131067 - buffer.used) c.loop-self.rest.now) (sym c.split_at.ensures.front) ∙ ap (λ (x : List ℕ). front ++ x) (sym c.split_at.ensures.back) in
    let size : length full ≡ 131067 =
    omega (arith, held_length c.hold.new.self.bytes.items c.hold.new.self.used c.hold.new.self.sized c.hold.new.self.fits, c.hold.ensures.used, c.split_at.ensures.front_len, buffer.fits) in
    record {
      session = c.send.ensures.session ∙ c.hold.ensures.session ∙ I.session;
      sent = (
        I.sent.0 ++ frame 4 c.hold.new.self.session full,
        appends_joined _ _ _ I.sent.0 (frame 4 c.hold.new.self.session full) I.sent.1 c.in_ok-send.ensures.sent,
        cut_on c.args.self.now.session c.hold.new.self.session _ c.args.piece.now held c.loop-self.rest.now front behind full I.sent.0 _
            (c.hold.ensures.session ∙ I.session) parts c.hold.ensures.text size (omega (arith, c.split_at.ensures.back_len, c.loop-self-test.true))
            (ap (λ (n : ℕ). held_text c.send.new.self.bytes.items n) c.send.ensures.used) I.sent.2,
      );
      counted = c.in_ok-send.ensures.counts ∙ I.counted;
    }
