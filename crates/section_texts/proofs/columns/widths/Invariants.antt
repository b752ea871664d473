use Rattle.std.proofs.Common.{◌≡◌, ◌++◌, length, map}
use Rattle.std.specs.Prelude.{string_bytes}
use Rattle.section_texts.specs.Columns.{widths_from}
use Rattle.section_texts.proofs.columns.widths.Given as goal

-- the widths that were found, and those of the heads that are left, are all
abbrev pub invariant-loop-rest : goal.invariant-loop-rest
invariant-loop-rest l = l.widths.items ++ widths_from (length l.widths.items) (map string_bytes l.rest) (map (λ r. map string_bytes r.items) l.rows) ≡ widths_from 0 (map string_bytes l.heads) (map (λ r. map string_bytes r.items) l.rows)

abbrev pub decreases-loop-rest : goal.decreases-loop-rest
decreases-loop-rest l = length l.rest
