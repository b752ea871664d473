use Rattle.std.proofs.Common.{◌≡◌, map, take}
use Rattle.std.specs.Prelude.{string_bytes}
use Rattle.section_texts.specs.Sections.{row_of}
use Rattle.section_texts.specs.Columns.{shown_row}
use Rattle.section_texts.proofs.columns.cell_texts.Given as goal

abbrev pub invariant-loop-cell : goal.invariant-loop-cell
invariant-loop-cell l = map string_bytes l.texts.items ≡ shown_row (row_of (take l.cell-index l.row))
