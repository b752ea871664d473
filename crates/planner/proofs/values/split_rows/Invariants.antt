use Rattle.std.proofs.Common.{◌≡◌, ◌++◌, drop}
use Rattle.std.specs.Vec.Iter.{into_iter_items}
use Rattle.planner.specs.Inserted.{cut_as}
use Rattle.planner.proofs.values.split_rows.Given as goal

-- the rows so far, and those that are left
abbrev pub invariant-loop-row : goal.invariant-loop-row
invariant-loop-row l = cut_as l.rows l.fn.bound ≡ l.cut ++ cut_as (drop l.row-index l.rows) (into_iter_items l.values)
