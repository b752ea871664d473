use Rattle.std.proofs.Common.{◌≡◌, ◌++◌, take, drop, sym, append_assoc, arith}
use Rattle.wire.specs.AnswerFrames.{answer_frames}
use Rattle.wire.specs.Frame.{frame}
use Rattle.wire.proofs.AnswerFrames.{frames_end, frames_more}
use Rattle.frame_talks.proofs.said.frames_of.Goals as goal

pub loop-rest-preserved : goal.loop-rest-preserved
loop-rest-preserved c =
    let session = c.args.session in
    let rest = c.loop-rest.rest.now in
    let more : answer_frames session rest ≡ frame 4 session (take 131067 rest) ++ answer_frames session (drop 131067 rest) = frames_more session rest (omega (arith, c.loop-rest-test.true)) in
    let full = c.split_at.ensures.front in
    let behind = c.split_at.ensures.back in
    let put = c.in_ok-put_frame.ensures in
    rw (put, full, behind, append_assoc c.loop-rest.frames.items (frame 4 session (take 131067 rest)) (answer_frames session (drop 131067 rest)), ← more) c.loop-rest.invariant

pub returns : goal.returns
returns c =
    let last = frames_end c.args.session c.loop-rest.rest.now (omega (arith, c.loop-rest-test.false)) in
    rw (c.in_ok-put_frame-2.ensures, ← last) (sym c.loop-rest.invariant)
