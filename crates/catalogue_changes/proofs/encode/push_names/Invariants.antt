use Rattle.std.proofs.Common.{◌≡◌, ◌++◌, drop, flat_map}
use Rattle.stored_database.specs.RecordFormat.{ended}
use Rattle.catalogue_changes.proofs.encode.push_names.Given as goal

-- the names to come are left to append
abbrev pub invariant-loop-name : goal.invariant-loop-name
invariant-loop-name l = l.fn.out.items ++ flat_map ended l.names ≡ l.out.items ++ flat_map ended (drop l.name-index l.names)
