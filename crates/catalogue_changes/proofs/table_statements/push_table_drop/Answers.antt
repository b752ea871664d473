use Rattle.std.proofs.Common.{List, refl, ap, sym, subst}
use Rattle.stored_database.specs.Definitions.{TableDefinition}
use Rattle.stored_database.specs.RecordFormat.{table_record}
use Rattle.stored_database.proofs.KeyOrder.{table_order}
use Rattle.catalogue.specs.Lookups.{is_definition_named}
use Rattle.catalogue_changes.specs.SchemaChanges.{row_entries, part_removals}
use Rattle.catalogue_changes.specs.Entries.{AreStorableTables}
use Rattle.catalogue_changes.specs.Reads.{HaveKeySizes}
use Rattle.catalogue_changes.proofs.AddLemmas.{both_added}
use Rattle.catalogue_changes.proofs.ItemLemmas.{changes_of_drop}
use Rattle.catalogue_changes.proofs.TableStatementLemmas.{same_found, storable_where, sizes_of_tables, undamaged_on}
use Rattle.catalogue_changes.proofs.table_statements.push_table_drop.Goals as goal

pub returns-in_err-push_table_change-clause-undamaged : goal.returns-in_err-push_table_change-clause-undamaged
returns-in_err-push_table_change-clause-undamaged g c = λ s all sizes.
    let found = same_found c.args.name.now c.args.name.now c.args.catalogue.now.tables _ refl c.table-old.ensures c.tables-in_order.ensures.order.tables in
    undamaged_on c.from_residual.result c.in_err-push_table_change.field-0.0 c.from_residual.ensures.1
    (c.in_err-push_table_change.ensures.undamaged (sizes_of_tables found (storable_where (is_definition_named c.args.name.now) c.args.catalogue.now.tables all)) tt)

pub returns-in_err-push_part_removals-clause-undamaged : goal.returns-in_err-push_part_removals-clause-undamaged
returns-in_err-push_part_removals-clause-undamaged g c = λ s all sizes.
    let found = same_found c.args.name.now c.args.name.now c.args.catalogue.now.tables _ refl c.table-old.ensures c.tables-in_order.ensures.order.tables in
    undamaged_on c.from_residual-in_err-push_part_removals.result c.in_err-push_part_removals.field-0.0 c.from_residual-in_err-push_part_removals.ensures.1
    (c.in_err-push_part_removals.ensures.undamaged s
    (subst AreStorableTables (sym found) (storable_where (is_definition_named c.args.name.now) c.args.catalogue.now.tables all))
    (subst (λ (ts : List TableDefinition). HaveKeySizes (row_entries (g.M.Map.state c.args.map.now).map ts)) (sym found) sizes))

pub returns-clause-changes : goal.returns-clause-changes
returns-clause-changes g c = λ s.
    let found = same_found c.args.name.now c.args.name.now c.args.catalogue.now.tables _ refl c.table-old.ensures c.tables-in_order.ensures.order.tables in
    both_added _ _ _ _ c.args.out.now c.push_table_change.new.out c.push_part_removals.new.out
    (changes_of_drop (λ (t : TableDefinition). t.definition.name) table_record table_order c.args.name.now c.args.catalogue.now.tables c.tables-in_order.ensures.order.tables _ c.table-old.ensures)
    (ap (part_removals (g.M.Map.state c.args.map.now).map) found) c.in_ok-push_table_change.ensures.ok (c.in_ok-push_part_removals.ensures.ok s)
