use Rattle.std.proofs.Common.{◌≡◌, ◌++◌, length, map}
use Rattle.access_texts.specs.Definitions.{policy_row}
use Rattle.catalogue.specs.Policies.{policies_in}
use Rattle.section_texts.specs.Sections.{row_of}
use Rattle.access_texts.proofs.definitions.push_policies.Given as goal

-- what was found, and what is left adds, are all
abbrev pub invariant-loop-rest : goal.invariant-loop-rest
invariant-loop-rest l = map (λ r. row_of r.items) l.rows.items ++ map (policy_row l.table) (policies_in l.rest) ≡ map (λ r. row_of r.items) l.fn.rows.items ++ map (policy_row l.table) l.table.policies

abbrev pub decreases-loop-rest : goal.decreases-loop-rest
decreases-loop-rest l = length l.rest
