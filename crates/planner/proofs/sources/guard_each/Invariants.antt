use Rattle.std.proofs.Common.{◌≡◌, map, take, true}
use Rattle.std.specs.List.{All}
use Rattle.sql_ast.specs.declared.privilege.Action.TheVariants as action
use Rattle.planner.specs.Sources.{IsGuardedFrom}
use Rattle.planner.proofs.sources.guard_each.Given as goal

abbrev pub invariant-loop-table : goal.invariant-loop-table
invariant-loop-table l =
    (map (λ s. s.table.now) l.sources ≡ map (λ t. t.now) (take l.table-index l.tables))
    × All (IsGuardedFrom l.catalogue l.current action.Select true) l.sources
