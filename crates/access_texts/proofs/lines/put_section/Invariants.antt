use Rattle.std.proofs.Common.{◌≡◌, length, map}
use Rattle.section_texts.specs.Sections.{section_of, row_of}
use Rattle.section_texts.specs.LineTexts.{texts_of}
use Rattle.access_texts.specs.Lines.{put_rows}
use Rattle.access_texts.proofs.lines.put_section.Given as goal

-- what was found, and what is left adds, are all
abbrev pub invariant-loop-rest : goal.invariant-loop-rest
invariant-loop-rest l = put_rows (section_of l.section) (map (λ r. row_of r.items) l.rest) (map texts_of l.lines.items) ≡ put_rows (section_of l.section) (section_of l.section).rows (map texts_of l.fn.lines.items)

abbrev pub decreases-loop-rest : goal.decreases-loop-rest
decreases-loop-rest l = length l.rest
