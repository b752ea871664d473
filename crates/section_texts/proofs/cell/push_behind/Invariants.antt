use Rattle.std.proofs.Common.{◌≡◌, ◌++◌, false, length, map}
use Rattle.std.specs.Prelude.{string_bytes}
use Rattle.section_texts.specs.Cells.{shown_names_behind}
use Rattle.section_texts.proofs.cell.push_behind.Given as goal

-- what was written, and what the names that are left add, are all
abbrev pub invariant-loop-rest : goal.invariant-loop-rest
invariant-loop-rest l = string_bytes l.out ++ shown_names_behind l.later (map (λ n. n.now) l.rest) ≡ string_bytes l.fn.out ++ shown_names_behind false (map (λ n. n.now) l.names)

abbrev pub decreases-loop-rest : goal.decreases-loop-rest
decreases-loop-rest l = length l.rest
