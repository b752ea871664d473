use Rattle.std.proofs.Common.{◌≡◌, take}
use Rattle.row_codec.proofs.lent.LentRow.of.Given as goal

-- the values so far are lent
abbrev pub invariant-loop-value : goal.invariant-loop-value
invariant-loop-value l = l.lent ≡ take l.value-index l.row
