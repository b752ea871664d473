use Rattle.std.proofs.Common.{◌≡◌, ◌++◌, map, take}
use Rattle.sql_ast.specs.Scope.{tables_of}
use Rattle.expressions.specs.Parts.{part_of}
use Rattle.planner.specs.Parts.{key_part}
use Rattle.planner.proofs.parts.add_keys.Given as goal

abbrev pub invariant-loop-key : goal.invariant-loop-key
invariant-loop-key l = map part_of l.parts.items ≡ map part_of l.initial.parts.items ++ map (key_part (tables_of l.scope)) (take l.key-index l.keys)
