use Rattle.std.proofs.Common.{◌∙◌, arith, rules, sym}
use Rattle.cli.proofs.EventLines.{passes, stops_at}
use Rattle.cli.proofs.explainer.read_event.Goals as goal

pub returns-then-not-is_skipped : goal.returns-then-not-is_skipped
returns-then-not-is_skipped c = let last = stops_at c.args.lines.now c.loop-at.at _ (search rules) (sym c.is_skipped.ensures ∙ c.if-not-is_skipped.true) in let so = c.loop-at.invariant in omega (arith, last, so)

pub loop-at-preserved : goal.loop-at-preserved
loop-at-preserved c = let next = passes c.args.lines.now c.loop-at.at _ (search rules) (sym c.is_skipped.ensures ∙ c.if-not-is_skipped.false) in let so = c.loop-at.invariant in omega (arith, next, so)
