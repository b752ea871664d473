use Rattle.std.proofs.Common.{◌≡◌, drop}
use Rattle.std.specs.Option.{option_map}
use Rattle.sql_types.specs.Value.{owned}
use Rattle.key_ranges.specs.Boxes.{highest_of}
use Rattle.key_ranges.proofs.around.highest_of.Given as goal

-- the greatest so far, and those of the boxes that still come
abbrev pub invariant-loop-one : goal.invariant-loop-one
invariant-loop-one l = highest_of l.column (option_map owned l.first) l.boxes ≡ highest_of l.column (option_map owned l.greatest) (drop l.one-index l.boxes)
