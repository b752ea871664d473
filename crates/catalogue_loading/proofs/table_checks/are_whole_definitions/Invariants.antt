use Rattle.std.specs.Prelude.{take}
use Rattle.abstract_database.specs.Whole.{Each}
use Rattle.catalogue_loading.specs.ValidityParts.{IsWholeDefinition}
use Rattle.catalogue_loading.proofs.table_checks.are_whole_definitions.Given as goal

abbrev pub invariant-loop-table : goal.invariant-loop-table
invariant-loop-table l = Each (IsWholeDefinition l.catalogue.roles) (take l.table-index l.tables)
