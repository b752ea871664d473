use Rattle.std.proofs.Common.{◌≡◌, map, take}
use Rattle.schema_statements.proofs.new_columns.has_double_column.Given as goal

abbrev pub invariant-loop-definition : goal.invariant-loop-definition
invariant-loop-definition l = map (λ n. n.now) l.names.items ≡ map (λ d. d.now.column) (take l.definition-index l.definitions)
