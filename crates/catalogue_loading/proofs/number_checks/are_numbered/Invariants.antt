use Rattle.std.specs.Prelude.{◌≡◌, take, length}
use Rattle.stored_database.specs.Definitions.{ids_of}
use Rattle.catalogue.specs.Numbers.{MarkTaken}
use Rattle.catalogue_loading.specs.ValidityParts.{AreNumbered}
use Rattle.catalogue_loading.proofs.number_checks.are_numbered.Given as goal

abbrev pub invariant-loop-table : goal.invariant-loop-table
invariant-loop-table l = record {
  length : length l.marks ≡ 1025;
  marks : MarkTaken (ids_of (take l.table-index l.tables)) l.marks;
  numbered : AreNumbered (take l.table-index l.tables);
}
