use Rattle.std.proofs.Common.{◌≡◌, ◌++◌, false, length, map}
use Rattle.std.specs.Prelude.{string_bytes}
use Rattle.section_texts.specs.Sections.{section_of}
use Rattle.section_texts.specs.Columns.{columns_text, sections_behind}
use Rattle.section_texts.proofs.columns.columns_text.Given as goal

-- what was written, and what the sections that are left add, are all
abbrev pub invariant-loop-rest : goal.invariant-loop-rest
invariant-loop-rest l = string_bytes l.out ++ sections_behind l.later (map section_of l.rest) ≡ columns_text (map section_of l.sections)

abbrev pub decreases-loop-rest : goal.decreases-loop-rest
decreases-loop-rest l = length l.rest
