use Rattle.std.proofs.Common.{◌≡◌, map, take}
use Rattle.abstract_database.specs.Definitions.{definitions_of}
use Rattle.schema_statements.proofs.new_columns.definitions_of.Given as goal

abbrev pub invariant-loop-element : goal.invariant-loop-element
invariant-loop-element l = map (λ d. d.now) l.definitions.items ≡ definitions_of (take l.element-index l.elements)
