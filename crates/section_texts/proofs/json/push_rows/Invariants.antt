use Rattle.std.proofs.Common.{◌≡◌, ◌++◌, false, length, map}
use Rattle.std.specs.Prelude.{string_bytes}
use Rattle.section_texts.specs.Sections.{row_of, section_of}
use Rattle.section_texts.specs.Json.{json_rows_behind}
use Rattle.section_texts.proofs.json.push_rows.Given as goal

-- what was written, and what is left adds, are all
abbrev pub invariant-loop-rest : goal.invariant-loop-rest
invariant-loop-rest l = string_bytes l.out ++ json_rows_behind l.later (map (λ c. c.now) l.columns) (map (λ r. row_of r.items) l.rest) ≡ string_bytes l.fn.out ++ json_rows_behind false (map (λ c. c.now) l.columns) (map (λ r. row_of r.items) l.rows)

abbrev pub decreases-loop-rest : goal.decreases-loop-rest
decreases-loop-rest l = length l.rest
