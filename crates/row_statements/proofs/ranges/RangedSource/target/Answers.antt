use Rattle.std.proofs.Common.{refl}
use Rattle.row_statements.proofs.ranges.RangedSource.target.Goals as goal

pub returns : goal.returns
returns c = record { target_of = record { id = c.id.ensures; layout = c.columns.ensures; guard = refl; who = refl }; range = c.as_ref.ensures.value }
