use Rattle.std.proofs.Common.{◌∙◌, refl}
use Rattle.wire.specs.AnswerText.{next_field}
use Rattle.wire.proofs.Sinks.{taken_on, texts_read}
use Rattle.wire.proofs.answers.print_next_fields.Goals as goal

pub loop-value-preserved : goal.loop-value-preserved
loop-value-preserved g c = record {
  taken = taken_on g.S.TextWriter.takes g.S.TextWriter.takes_joined _ _ _ _ _ _ _ _ _
      c.loop-value.invariant.taken c.in_ok-print_next_field.ensures.taken (texts_read next_field c.args.values.now c.loop-value.value-index c.value-item.result _ c.loop-value-test.true c.value-item.is refl);
  counted = c.in_ok-print_next_field.ensures.counts ∙ c.loop-value.invariant.counted;
}
