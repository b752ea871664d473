use Rattle.std.proofs.Common.{◌≡◌, ◌++◌, length, map}
use Rattle.access_texts.specs.Access.{grant_row}
use Rattle.section_texts.specs.Sections.{row_of}
use Rattle.access_texts.proofs.access.push_action_grants.Given as goal

-- what was found, and what is left adds, are all
abbrev pub invariant-loop-rest : goal.invariant-loop-rest
invariant-loop-rest l = map (λ r. row_of r.items) l.rows.items ++ map (grant_row l.table.definition l.role l.action) l.rest ≡ map (λ r. row_of r.items) l.fn.rows.items ++ map (grant_row l.table.definition l.role l.action) l.has.grants.items

abbrev pub decreases-loop-rest : goal.decreases-loop-rest
decreases-loop-rest l = length l.rest
