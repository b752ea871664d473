use Rattle.std.proofs.Common.{◌≡◌, take}
use Rattle.row_codec.proofs.lent.lent_rows.Given as goal

-- the rows so far are lent
abbrev pub invariant-loop-row : goal.invariant-loop-row
invariant-loop-row l = l.lent ≡ take l.row-index l.row-items
