use Rattle.std.proofs.Common.{◌≡◌, ◌++◌, map}
use Rattle.std.specs.Iterator.Adapters.{zip_first, zip_second}
use Rattle.std.specs.Slice.Iter.{iter_rest}
use Rattle.sql_ast.specs.Scope.{tables_of}
use Rattle.expressions.specs.Parts.{part_of}
use Rattle.abstract_database.specs.Checks.{value_parts}
use Rattle.planner.proofs.changes.add_values.Given as goal

-- the parts so far, and those of the values that are left
abbrev pub invariant-loop-column : goal.invariant-loop-column
invariant-loop-column l =
    map part_of l.initial.parts.items ++ value_parts (tables_of l.scope) l.layout l.columns (map (λ a. a.value) l.assignments)
    ≡ map part_of l.parts.items ++ value_parts (tables_of l.scope) l.layout (iter_rest (zip_first l.column-iterator)) (map (λ a. a.value) (iter_rest (zip_second l.column-iterator)))
