use Rattle.std.proofs.Common.{◌≡◌, drop}
use Rattle.gathering.specs.RowOrder.{are_numbered}
use Rattle.gathering.proofs.row_order.are_numbered.Given as goal

abbrev pub invariant-loop-row : goal.invariant-loop-row
invariant-loop-row l = are_numbered l.descending l.rows ≡ are_numbered l.descending (drop l.row-index l.rows)
