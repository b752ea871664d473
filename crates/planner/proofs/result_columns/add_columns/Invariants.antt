use Rattle.std.proofs.Common.{◌≡◌, ◌++◌, map, take}
use Rattle.abstract_database.specs.Descriptions.{column_as_it_is}
use Rattle.planner.proofs.result_columns.add_columns.Given as goal

abbrev pub invariant-loop-column : goal.invariant-loop-column
invariant-loop-column l = l.all ≡ l.initial.all ++ map column_as_it_is (take l.column-index l.columns.columns)
