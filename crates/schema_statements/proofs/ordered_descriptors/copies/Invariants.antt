use Rattle.std.proofs.Common.{◌≡◌, take}
use Rattle.schema_statements.proofs.ordered_descriptors.copies.Given as goal

abbrev pub invariant-loop-descriptor : goal.invariant-loop-descriptor
invariant-loop-descriptor l = l.copies.items ≡ take l.descriptor-index l.list
