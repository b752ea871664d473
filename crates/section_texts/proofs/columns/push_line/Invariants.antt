use Rattle.std.proofs.Common.{◌≡◌, ◌++◌, length, map}
use Rattle.std.specs.Prelude.{string_bytes}
use Rattle.section_texts.specs.Columns.{table_line}
use Rattle.section_texts.proofs.columns.push_line.Given as goal

-- what was written, and what the texts that are left add, are all
abbrev pub invariant-loop-widths : goal.invariant-loop-widths
invariant-loop-widths l = string_bytes l.out ++ table_line l.lacks l.widths (map string_bytes l.texts) ≡ string_bytes l.fn.out ++ table_line 0 l.fn.widths (map string_bytes l.row)

abbrev pub decreases-loop-widths : goal.decreases-loop-widths
decreases-loop-widths l = length l.widths
