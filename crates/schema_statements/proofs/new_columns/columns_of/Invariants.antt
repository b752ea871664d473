use Rattle.std.proofs.Common.{◌≡◌, map, take}
use Rattle.abstract_database.specs.Definitions.{column_of}
use Rattle.schema_statements.proofs.new_columns.columns_of.Given as goal

abbrev pub invariant-loop-definition : goal.invariant-loop-definition
invariant-loop-definition l = l.columns ≡ map (column_of (map (λ n. n.now) l.key)) (map (λ d. d.now) (take l.definition-index l.definitions))
