use Rattle.wire.specs.AnswerText.{escaped}
use Rattle.wire.proofs.Sinks.{plain_more}
use Rattle.wire.proofs.answers.is_plain.Goals as goal

pub loop-byte-preserved : goal.loop-byte-preserved
loop-byte-preserved c = plain_more escaped c.args.text.now c.loop-byte.byte-index _ c.loop-byte-test.true c.loop-byte.invariant (c.is_escaped.ensures c.if-is_escaped.false)
