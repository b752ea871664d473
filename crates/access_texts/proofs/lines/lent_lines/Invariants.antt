use Rattle.std.proofs.Common.{◌≡◌, ◌++◌, length, map}
use Rattle.section_texts.specs.LineTexts.{texts_of}
use Rattle.line_differences.specs.Lines.{lines_of}
use Rattle.access_texts.proofs.lines.lent_lines.Given as goal

-- what was found, and what is left adds, are all
abbrev pub invariant-loop-rest : goal.invariant-loop-rest
invariant-loop-rest l = lines_of l.lent.items ++ map texts_of l.rest ≡ map texts_of l.lines

abbrev pub decreases-loop-rest : goal.decreases-loop-rest
decreases-loop-rest l = length l.rest
