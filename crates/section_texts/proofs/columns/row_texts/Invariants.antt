use Rattle.std.proofs.Common.{◌≡◌, map, take}
use Rattle.std.specs.Prelude.{string_bytes}
use Rattle.section_texts.specs.Sections.{row_of}
use Rattle.section_texts.specs.Columns.{shown_row}
use Rattle.section_texts.proofs.columns.row_texts.Given as goal

abbrev pub invariant-loop-row : goal.invariant-loop-row
invariant-loop-row l = map (λ r. map string_bytes r.items) l.texts.items ≡ map shown_row (map (λ r. row_of r.items) (take l.row-index l.rows))
