use Rattle.std.proofs.Common.{◌≡◌, length, map}
use Rattle.section_texts.specs.Sections.{section_of}
use Rattle.section_texts.specs.LineTexts.{texts_of}
use Rattle.access_texts.specs.Lines.{lines_in, put_sections}
use Rattle.access_texts.proofs.lines.ordered_lines.Given as goal

-- what was found, and what is left adds, are all
abbrev pub invariant-loop-rest : goal.invariant-loop-rest
invariant-loop-rest l = put_sections (map section_of l.rest) (map texts_of l.lines.items) ≡ lines_in (map section_of l.sections)

abbrev pub decreases-loop-rest : goal.decreases-loop-rest
decreases-loop-rest l = length l.rest
