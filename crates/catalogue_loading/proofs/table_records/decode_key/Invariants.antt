use Rattle.std.proofs.Common.{◌≡◌, take}
use Rattle.catalogue_loading.proofs.table_records.decode_key.Given as goal

-- the indices so far are in the key
abbrev pub invariant-loop-index : goal.invariant-loop-index
invariant-loop-index l = l.key ≡ take l.index-index l.indices
