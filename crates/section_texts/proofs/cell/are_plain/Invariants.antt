use Rattle.std.proofs.Common.{◌≡◌, length}
use Rattle.section_texts.specs.Cells.{all_are_plain}
use Rattle.section_texts.proofs.cell.are_plain.Given as goal

abbrev pub invariant-loop-rest : goal.invariant-loop-rest
invariant-loop-rest l = all_are_plain l.text ≡ all_are_plain l.rest

abbrev pub decreases-loop-rest : goal.decreases-loop-rest
decreases-loop-rest l = length l.rest
