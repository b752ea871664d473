use Rattle.std.proofs.Common.{◌≡◌, map, take}
use Rattle.planner.specs.ResultColumns.{scope_of_sources, value_column}
use Rattle.planner.proofs.result_columns.value_columns.Given as goal

abbrev pub invariant-loop-value : goal.invariant-loop-value
invariant-loop-value l = l.columns ≡ map (value_column (scope_of_sources l.sources)) (take l.value-index l.values)
