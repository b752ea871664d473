use Rattle.std.proofs.Common.{◌≡◌, length, map}
use Rattle.section_texts.specs.LineTexts.{texts_of}
use Rattle.access_texts.specs.Lines.{stands}
use Rattle.access_texts.proofs.lines.stands.Given as goal

abbrev pub invariant-loop-rest : goal.invariant-loop-rest
invariant-loop-rest l = stands l.subject (map texts_of l.rest) ≡ stands l.subject (map texts_of l.lines)

abbrev pub decreases-loop-rest : goal.decreases-loop-rest
decreases-loop-rest l = length l.rest
