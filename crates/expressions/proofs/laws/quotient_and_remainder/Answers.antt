use Rattle.std.proofs.Common.{arith}
use Rattle.std.proofs.lemmas.Int.{quot-rem}
use Rattle.expressions.proofs.laws.quotient_and_remainder.Goals as goal

pub returns-clause-dividend : goal.returns-clause-dividend
returns-clause-dividend c = λ x y q r divided remaining. let whole = quot-rem x y in grind (arith, whole, divided, remaining)
