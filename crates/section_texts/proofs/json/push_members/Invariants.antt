use Rattle.std.proofs.Common.{◌≡◌, ◌++◌, false, length, map}
use Rattle.std.specs.Prelude.{string_bytes}
use Rattle.section_texts.specs.Sections.{row_of}
use Rattle.section_texts.specs.Json.{json_members_behind}
use Rattle.section_texts.proofs.json.push_members.Given as goal

-- what was written, and what the cells that are left add, are all
abbrev pub invariant-loop-columns : goal.invariant-loop-columns
invariant-loop-columns l = string_bytes l.out ++ json_members_behind l.later (map (λ c. c.now) l.columns) (row_of l.cells) ≡ string_bytes l.fn.out ++ json_members_behind false (map (λ c. c.now) l.fn.columns) (row_of l.row)

abbrev pub decreases-loop-columns : goal.decreases-loop-columns
decreases-loop-columns l = length l.columns
