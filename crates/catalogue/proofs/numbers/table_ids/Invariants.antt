use Rattle.std.specs.Prelude.{◌≡◌, take}
use Rattle.stored_database.specs.Definitions.{ids_of}
use Rattle.catalogue.proofs.numbers.table_ids.Given as goal

abbrev pub invariant-loop-table : goal.invariant-loop-table
invariant-loop-table l = l.ids.items ≡ ids_of (take l.table-index l.tables)
