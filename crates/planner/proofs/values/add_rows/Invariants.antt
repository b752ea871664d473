use Rattle.std.proofs.Common.{◌≡◌, ◌++◌, map, flat_map, drop}
use Rattle.sql_ast.specs.Scope.{tables_of}
use Rattle.expressions.specs.Parts.{part_of}
use Rattle.abstract_database.specs.Checks.{value_parts}
use Rattle.planner.proofs.values.add_rows.Given as goal

-- the parts so far, and those of the rows that are left
abbrev pub invariant-loop-row : goal.invariant-loop-row
invariant-loop-row l =
    map part_of l.initial.parts.items ++ flat_map (value_parts (tables_of l.scope) l.layout l.columns) l.rows
    ≡ map part_of l.parts.items ++ flat_map (value_parts (tables_of l.scope) l.layout l.columns) (drop l.row-index l.rows)
