use Rattle.std.proofs.Common.{◌≡◌, ◌++◌, length, map}
use Rattle.access_texts.specs.Definitions.{table_row}
use Rattle.section_texts.specs.Sections.{row_of}
use Rattle.access_texts.proofs.definitions.table_section.Given as goal

-- what was found, and what is left adds, are all
abbrev pub invariant-loop-rest : goal.invariant-loop-rest
invariant-loop-rest l = map (λ r. row_of r.items) l.rows.items ++ map table_row (map (λ t. t.now) l.rest) ≡ map table_row (map (λ t. t.now) l.tables)

abbrev pub decreases-loop-rest : goal.decreases-loop-rest
decreases-loop-rest l = length l.rest
