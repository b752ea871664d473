use Rattle.std.proofs.Common.{◌≡◌, ◌++◌, false, length, map}
use Rattle.std.specs.Prelude.{string_bytes}
use Rattle.section_texts.specs.Sections.{way_of}
use Rattle.section_texts.specs.Cells.{shown_ways_behind}
use Rattle.section_texts.proofs.cell.push_ways_behind.Given as goal

-- what was written, and what the memberships that are left add, are all
abbrev pub invariant-loop-rest : goal.invariant-loop-rest
invariant-loop-rest l = string_bytes l.out ++ shown_ways_behind l.later (map way_of l.rest) ≡ string_bytes l.fn.out ++ shown_ways_behind false (map way_of l.ways)

abbrev pub decreases-loop-rest : goal.decreases-loop-rest
decreases-loop-rest l = length l.rest
