use Rattle.std.proofs.Common.{◌≡◌, length, map, take}
use Rattle.sql_ast.specs.Scope.{table_of}
use Rattle.planner.proofs.bound.widths.Given as goal

abbrev pub invariant-loop-table : goal.invariant-loop-table
invariant-loop-table l = l.widths ≡ map (λ t. length (table_of t).columns) (take l.table-index l.scope.tables.now)
