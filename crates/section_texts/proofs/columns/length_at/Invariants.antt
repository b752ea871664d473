use Rattle.std.proofs.Common.{◌≡◌, length, map}
use Rattle.std.specs.Prelude.{string_bytes}
use Rattle.section_texts.specs.Columns.{length_at}
use Rattle.section_texts.proofs.columns.length_at.Given as goal

abbrev pub invariant-loop-rest : goal.invariant-loop-rest
invariant-loop-rest l = length_at l.left (map string_bytes l.rest) ≡ length_at l.index (map string_bytes l.row)

abbrev pub decreases-loop-rest : goal.decreases-loop-rest
decreases-loop-rest l = length l.rest
