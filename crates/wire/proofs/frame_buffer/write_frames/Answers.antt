use Rattle.std.proofs.Common.{◌≤◌, ℕ, List, length, subst, ◌∙◌, arith}
use Rattle.std.specs.Io.KnownBytes.{Appends}
use Rattle.wire.specs.Frame.{frame}
use Rattle.wire.specs.Sinks.{held_text, appends_joined}
use Rattle.wire.proofs.AnswerFrames.{on_ok}
use Rattle.wire.proofs.Counting.{then_counted}
use Rattle.wire.proofs.Sinks.{finished, held_length}
use Rattle.wire.proofs.frame_buffer.write_frames.Goals as goal

pub returns-clause-taken : goal.returns-clause-taken
returns-clause-taken g c =
    let told = c.in_ok-print_answer.ensures.taken in
    let buffer = c.print_answer.new.sink in
    let held = held_text buffer.bytes.items buffer.used in
    let small : length held ≤ 131067 = omega (arith, held_length buffer.bytes.items buffer.used buffer.sized buffer.fits, buffer.fits) in
    on_ok c.send.result _ _
    (λ sent. subst (λ (x : List ℕ). Appends (g.O.Output.contents c.args.out.now) (g.O.Output.contents c.send.new.out) x)
    (finished c.args.session _ buffer.session _ _ told.1.0 held c.begin.ensures.session (told.0 ∙ c.begin.ensures.session) c.begin.ensures.empty small told.1.2)
    (appends_joined _ (g.O.Output.contents c.print_answer.new.out) _ told.1.0 (frame 4 buffer.session held) told.1.1 sent))
    c.send.ensures.sent

pub returns-clause-counts : goal.returns-clause-counts
returns-clause-counts g c = then_counted c.send.result _ _ _ c.in_ok-print_answer.ensures.counts c.send.ensures.counts
