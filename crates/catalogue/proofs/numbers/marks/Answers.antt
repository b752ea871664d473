use Rattle.std.proofs.Common.{false, refl, arith}
use Rattle.std.proofs.lemmas.List.{get_or-replicate}
use Rattle.catalogue.proofs.numbers.marks.Goals as goal

pub loop-table-init : goal.loop-table-init
loop-table-init c = record { length = refl; marks = λ n to. get_or-replicate 1025 n false false (omega (arith, to)) }
