use Rattle.std.proofs.Common.{◌≡◌, ◌++◌, length, map}
use Rattle.access_texts.specs.Powers.{becoming_row}
use Rattle.section_texts.specs.Sections.{row_of}
use Rattle.access_texts.proofs.powers.push_becoming.Given as goal

-- what was found, and what is left adds, are all
abbrev pub invariant-loop-rest : goal.invariant-loop-rest
invariant-loop-rest l = map (λ r. row_of r.items) l.rows.items ++ map (becoming_row l.role) l.rest ≡ map (λ r. row_of r.items) l.fn.rows.items ++ map (becoming_row l.role) l.others

abbrev pub decreases-loop-rest : goal.decreases-loop-rest
decreases-loop-rest l = length l.rest
