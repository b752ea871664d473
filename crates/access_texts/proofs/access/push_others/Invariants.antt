use Rattle.std.proofs.Common.{◌≡◌, ◌++◌, length, map}
use Rattle.std.specs.List.{flat_map}
use Rattle.access_texts.specs.Access.{settable_rows}
use Rattle.section_texts.specs.Sections.{row_of}
use Rattle.access_texts.proofs.access.push_others.Given as goal

-- what was found, and what is left adds, are all
abbrev pub invariant-loop-rest : goal.invariant-loop-rest
invariant-loop-rest l = map (λ r. row_of r.items) l.rows.items ++ flat_map (settable_rows l.table.definition l.roles l.role) l.rest ≡ map (λ r. row_of r.items) l.fn.rows.items ++ flat_map (settable_rows l.table.definition l.roles l.role) l.others

abbrev pub decreases-loop-rest : goal.decreases-loop-rest
decreases-loop-rest l = length l.rest
