use Rattle.std.proofs.Common.{◌≡◌, map, take}
use Rattle.sql_types.specs.Value.{owned}
use Rattle.row_codec.proofs.lent.LentRow.to_row.Given as goal

abbrev pub invariant-loop-value : goal.invariant-loop-value
invariant-loop-value l = l.row ≡ map owned (take l.value-index l.value-items)
