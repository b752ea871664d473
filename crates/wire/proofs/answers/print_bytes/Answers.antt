use Rattle.std.proofs.Common.{◌∙◌}
use Rattle.wire.specs.AnswerText.{escaped}
use Rattle.wire.proofs.Sinks.{taken_on, texts_more}
use Rattle.wire.proofs.answers.print_bytes.Goals as goal

pub loop-byte-preserved : goal.loop-byte-preserved
loop-byte-preserved g c = record {
  taken = taken_on g.S.TextWriter.takes g.S.TextWriter.takes_joined _ _ _ _ _ _ _ _ _
      c.loop-byte.invariant.taken c.in_ok-print_byte.ensures.taken (texts_more escaped c.args.text.now c.loop-byte.byte-index _ c.loop-byte-test.true);
  counted = c.in_ok-print_byte.ensures.counts ∙ c.loop-byte.invariant.counted;
}
