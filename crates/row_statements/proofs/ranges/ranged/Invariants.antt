use Rattle.std.proofs.Common.{◌≡◌, map, take}
use Rattle.expressions.specs.Rows.{names_of}
use Rattle.key_ranges.specs.BoxCode.{role_names}
use Rattle.row_statements.specs.Ranges.{ranges_among, AreRanged}
use Rattle.row_statements.proofs.ranges.ranged.Given as goal

abbrev pub invariant-loop-index : goal.invariant-loop-index
invariant-loop-index l =
    (map (λ r. r.range) l.ranged ≡ ranges_among (names_of l.users) (role_names l.users) l.conditions 0 (take l.index l.sources))
    × AreRanged (names_of l.users) l.conditions 0 (take l.index l.sources) l.ranged
