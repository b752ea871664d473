use Rattle.std.proofs.Common.{◌≡◌, ◌++◌, ◌+◌, map, drop}
use Rattle.sql_ast.specs.Scope.{tables_of}
use Rattle.expressions.specs.Parts.{part_of}
use Rattle.abstract_database.specs.Queries.{join_conditions}
use Rattle.planner.specs.Parts.{condition_part}
use Rattle.planner.proofs.parts.add_joins.Given as goal

-- the parts so far, and those of the joins that are left
abbrev pub invariant-loop-index : goal.invariant-loop-index
invariant-loop-index l =
    map part_of l.initial.parts.items ++ map (condition_part (tables_of l.scope)) (join_conditions 2 l.joins)
    ≡ map part_of l.parts.items ++ map (condition_part (tables_of l.scope)) (join_conditions (l.index + 2) (drop l.index l.joins))
