use Rattle.std.proofs.Common.{ap}
use Rattle.std.specs.Prelude.{Some}
use Rattle.expressions.proofs.OrderLaws.{bytes_less, bytes_longer}
use Rattle.expressions.proofs.laws.texts_go_by_bytes.Goals as goal

pub returns-clause-first_difference : goal.returns-clause-first_difference
returns-clause-first_difference c = λ front rest other b d below. ap Some (bytes_less front rest other b d below)

pub returns-clause-longer : goal.returns-clause-longer
returns-clause-longer c = λ front rest b. ap Some (bytes_longer front rest b)
