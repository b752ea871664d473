use Rattle.std.proofs.Common.{◌∙◌}
use Rattle.wire.specs.AnswerText.{row_text}
use Rattle.wire.proofs.Sinks.{taken_on, texts_read}
use Rattle.wire.proofs.answers.print_each_row.Goals as goal

pub loop-row-preserved : goal.loop-row-preserved
loop-row-preserved g c = record {
  taken = taken_on g.S.TextWriter.takes g.S.TextWriter.takes_joined _ _ _ _ _ _ _ _ _
      c.loop-row.invariant.taken c.in_ok-print_row.ensures.taken (texts_read row_text c.args.rows.now c.loop-row.row-index c.row-item.result _ c.loop-row-test.true c.row-item.is c.as_slice.ensures);
  counted = c.in_ok-print_row.ensures.counts ∙ c.loop-row.invariant.counted;
}
