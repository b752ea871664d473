use Rattle.std.proofs.Common.{◌≡◌, ◌++◌, length, map}
use Rattle.access_texts.specs.Powers.{role_row}
use Rattle.section_texts.specs.Sections.{row_of}
use Rattle.access_texts.proofs.powers.role_section.Given as goal

-- what was found, and what is left adds, are all
abbrev pub invariant-loop-rest : goal.invariant-loop-rest
invariant-loop-rest l = map (λ r. row_of r.items) l.rows.items ++ map role_row l.rest ≡ map role_row l.powers

abbrev pub decreases-loop-rest : goal.decreases-loop-rest
decreases-loop-rest l = length l.rest
