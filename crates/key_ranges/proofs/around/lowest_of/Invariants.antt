use Rattle.std.proofs.Common.{◌≡◌, drop}
use Rattle.std.specs.Option.{option_map}
use Rattle.sql_types.specs.Value.{owned}
use Rattle.key_ranges.specs.Boxes.{lowest_of}
use Rattle.key_ranges.proofs.around.lowest_of.Given as goal

-- the least so far, and those of the boxes that still come
abbrev pub invariant-loop-one : goal.invariant-loop-one
invariant-loop-one l = lowest_of l.column (option_map owned l.first) l.boxes ≡ lowest_of l.column (option_map owned l.least) (drop l.one-index l.boxes)
