use Rattle.std.proofs.Common.{◌≡◌, length, map}
use Rattle.std.specs.Prelude.{string_bytes}
use Rattle.section_texts.specs.Columns.{width_at}
use Rattle.section_texts.proofs.columns.width_at.Given as goal

abbrev pub invariant-loop-rest : goal.invariant-loop-rest
invariant-loop-rest l = width_at l.index l.width (map (λ r. map string_bytes r.items) l.rest) ≡ width_at l.index l.least (map (λ r. map string_bytes r.items) l.rows)

abbrev pub decreases-loop-rest : goal.decreases-loop-rest
decreases-loop-rest l = length l.rest
