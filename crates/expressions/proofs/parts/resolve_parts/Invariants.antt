use Rattle.std.proofs.Common.{drop}
use Rattle.expressions.specs.Names.{resolved}
use Rattle.expressions.specs.Parts.{part_of}
use Rattle.expressions.proofs.Each.{Left}
use Rattle.expressions.proofs.parts.resolve_parts.Given as goal

abbrev pub invariant-loop-part : goal.invariant-loop-part
invariant-loop-part l = Left (λ p. resolved (part_of p).scope (part_of p).term) l.parts (drop l.part-index l.parts) l.resolved
