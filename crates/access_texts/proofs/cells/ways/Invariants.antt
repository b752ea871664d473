use Rattle.std.proofs.Common.{◌≡◌, ◌++◌, length, map}
use Rattle.section_texts.specs.Sections.{way_of}
use Rattle.access_texts.specs.Cells.{way_in}
use Rattle.access_texts.proofs.cells.ways.Given as goal

-- what was found, and what is left adds, are all
abbrev pub invariant-loop-rest : goal.invariant-loop-rest
invariant-loop-rest l = map way_of l.ways.items ++ map way_in (map (λ m. m.now) l.rest) ≡ map way_in (map (λ m. m.now) l.memberships)

abbrev pub decreases-loop-rest : goal.decreases-loop-rest
decreases-loop-rest l = length l.rest
