use Rattle.std.proofs.Common.{◌≡◌, ◌++◌, take}
use Rattle.row_codec.specs.Rows.{value_bytes}
use Rattle.row_codec.proofs.record.push_others.Given as goal

-- the cells of the columns so far are appended
abbrev pub invariant-loop-index : goal.invariant-loop-index
invariant-loop-index l = l.out.items ≡ l.initial.out.items ++ value_bytes l.key 0 (take l.index l.row)
