use Rattle.std.proofs.Common.{◌≡◌, ◌++◌, map}
use Rattle.std.specs.Iterator.Adapters.{zip_first, zip_second}
use Rattle.std.specs.Slice.Iter.{iter_rest}
use Rattle.sql_ast.specs.Scope.{table_of}
use Rattle.abstract_database.specs.Queries.{scope_of}
use Rattle.planner.specs.Tables.{definitions_in}
use Rattle.planner.proofs.tables.scope_tables.Given as goal

-- the tables so far, and those that are left
abbrev pub invariant-loop-reference : goal.invariant-loop-reference
invariant-loop-reference l =
    scope_of (map (λ r. r.now) l.references) (definitions_in (map (λ t. t.now) l.tables))
    ≡ map table_of l.scope.items ++ scope_of (map (λ r. r.now) (iter_rest (zip_first l.reference-iterator))) (definitions_in (map (λ t. t.now) (iter_rest (zip_second l.reference-iterator))))
