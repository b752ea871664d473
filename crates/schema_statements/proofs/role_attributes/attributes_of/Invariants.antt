use Rattle.std.proofs.Common.{◌≡◌, fold, drop}
use Rattle.abstract_database.specs.Definitions.{with_attribute, no_attributes}
use Rattle.schema_statements.proofs.role_attributes.attributes_of.Given as goal

-- the attributes that are still to come are set on those of before
abbrev pub invariant-loop-attribute : goal.invariant-loop-attribute
invariant-loop-attribute l = fold with_attribute no_attributes l.written ≡ fold with_attribute l.attributes (drop l.attribute-index l.written)
