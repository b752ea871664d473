use Rattle.std.proofs.Common.{◌≡◌, map, take}
use Rattle.statement_parameters.specs.Literals.{viewed_literal}
use Rattle.statement_parameters.specs.Parts.{literal_tokens}
use Rattle.statement_parameters.proofs.literal.literals_of.Given as goal

abbrev pub invariant-loop-value : goal.invariant-loop-value
invariant-loop-value l = map viewed_literal l.literals.items ≡ map literal_tokens (take l.value-index l.values)
