use Rattle.std.proofs.Common.{◌≡◌, ◌++◌, map, take}
use Rattle.sql_types.specs.Row.{value_at}
use Rattle.row_codec.specs.Rows.{key_bytes}
use Rattle.row_codec.proofs.record.push_row_key.Given as goal

-- the cells of the indices so far are appended
abbrev pub invariant-loop-index : goal.invariant-loop-index
invariant-loop-index l = l.out.items ≡ l.initial.out.items ++ key_bytes (map (value_at l.row) (take l.index-index l.index-items))
