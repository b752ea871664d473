use Rattle.std.proofs.Common.{◌≡◌, ◌++◌, map, take}
use Rattle.sql_ast.specs.Scope.{tables_of}
use Rattle.expressions.specs.Parts.{part_of}
use Rattle.planner.specs.Parts.{value_part}
use Rattle.planner.proofs.parts.add_values.Given as goal

abbrev pub invariant-loop-expression : goal.invariant-loop-expression
invariant-loop-expression l = map part_of l.parts.items ≡ map part_of l.initial.parts.items ++ map (value_part (tables_of l.scope)) (take l.expression-index l.expressions)
