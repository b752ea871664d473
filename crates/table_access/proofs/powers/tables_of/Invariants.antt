use Rattle.std.proofs.Common.{map, drop}
use Rattle.stored_database.specs.Definitions.{TableDefinition}
use Rattle.descriptions.proofs.Finding.{Finds}
use Rattle.table_access.specs.Powers.{is_owned_by}
use Rattle.table_access.proofs.powers.tables_of.Given as goal

abbrev pub invariant-loop-table : goal.invariant-loop-table
invariant-loop-table l = Finds (is_owned_by l.owner) (map (λ (t : TableDefinition). t.definition) l.tables) (map (λ (t : TableDefinition). t.definition) (drop l.table-index l.tables)) (map (λ t. t.now.definition) l.found.items)
