use Rattle.std.proofs.Common.{◌≡◌, map, take}
use Rattle.abstract_database.specs.Definitions.{key_names}
use Rattle.schema_statements.proofs.new_columns.key_names.Given as goal

abbrev pub invariant-loop-element : goal.invariant-loop-element
invariant-loop-element l = map (λ n. n.now) l.names.items ≡ key_names (take l.element-index l.elements)
