use Rattle.std.proofs.Common.{◌≡◌, ◌++◌, length, map}
use Rattle.std.specs.Prelude.{string_bytes}
use Rattle.std.specs.List.{flat_map}
use Rattle.section_texts.specs.Columns.{table_line}
use Rattle.section_texts.proofs.columns.push_lines.Given as goal

-- what was written, and what the rows that are left add, are all
abbrev pub invariant-loop-rest : goal.invariant-loop-rest
invariant-loop-rest l = string_bytes l.out ++ flat_map (table_line 0 l.widths) (map (λ r. map string_bytes r.items) l.rest) ≡ string_bytes l.fn.out ++ flat_map (table_line 0 l.widths) (map (λ r. map string_bytes r.items) l.rows)

abbrev pub decreases-loop-rest : goal.decreases-loop-rest
decreases-loop-rest l = length l.rest
