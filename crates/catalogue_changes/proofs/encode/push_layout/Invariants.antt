use Rattle.std.proofs.Common.{◌≡◌, ◌∷◌, ◌++◌, drop, length, flat_map}
use Rattle.stored_database.specs.RecordFormat.{column_bytes}
use Rattle.catalogue_changes.proofs.encode.push_layout.Given as goal

-- the columns to come are left to append
abbrev pub invariant-loop-column : goal.invariant-loop-column
invariant-loop-column l = l.fn.out.items ++ length l.all ∷ flat_map column_bytes l.all ≡ l.out.items ++ flat_map column_bytes (drop l.column-index l.all)
