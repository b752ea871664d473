use Rattle.std.proofs.Common.{◌∙◌}
use Rattle.planner.specs.Changed.{expressions_in}
use Rattle.planner.proofs.ReadColumns.{reads_any}
use Rattle.planner.proofs.reading.changes_read.Goals as goal

pub returns : goal.returns
returns c = c.changes_lack.ensures ∙ reads_any 0 (expressions_in c.args.values.now c.args.condition.now)
