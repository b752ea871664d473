use Rattle.std.proofs.Common.{◌≡◌, ◌++◌, false, length, map}
use Rattle.std.specs.Prelude.{string_bytes}
use Rattle.section_texts.specs.Sections.{way_of}
use Rattle.section_texts.specs.Json.{json_ways_behind}
use Rattle.section_texts.proofs.json.push_ways.Given as goal

-- what was written, and what is left adds, are all
abbrev pub invariant-loop-rest : goal.invariant-loop-rest
invariant-loop-rest l = string_bytes l.out ++ json_ways_behind l.later (map way_of l.rest) ≡ string_bytes l.fn.out ++ json_ways_behind false (map way_of l.ways)

abbrev pub decreases-loop-rest : goal.decreases-loop-rest
decreases-loop-rest l = length l.rest
