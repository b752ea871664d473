use Rattle.std.proofs.Common.{find, refl, ap, ◌∙◌}
use Rattle.abstract_database.specs.Lists.{TheName}
use Rattle.stored_database.specs.Definitions.{TableDefinition}
use Rattle.stored_database.specs.RecordFormat.{table_record}
use Rattle.stored_database.proofs.KeyOrder.{table_order}
use Rattle.catalogue.specs.Lookups.{is_definition_named}
use Rattle.catalogue_changes.specs.SchemaChanges.{descriptor_entries, policy_entries}
use Rattle.catalogue_changes.proofs.AddLemmas.{both_added}
use Rattle.catalogue_changes.proofs.ItemLemmas.{changes_of_put}
use Rattle.catalogue_changes.proofs.TableStatementLemmas.{same_found, same_gone, storable_where, sizes_of_tables, descriptors_of_tables, policies_of_tables, undamaged_on}
use Rattle.catalogue_changes.proofs.table_statements.push_table_records.Goals as goal

pub returns-in_err-push_table_change-clause-undamaged : goal.returns-in_err-push_table_change-clause-undamaged
returns-in_err-push_table_change-clause-undamaged c = λ all one.
    let found = same_found c.args.table.now.definition.name c.name.result.now c.args.catalogue.now.tables _ c.name.ensures c.table-old.ensures c.tables-in_order.ensures.order.tables in
    undamaged_on c.from_residual.result c.in_err-push_table_change.field-0.0 c.from_residual.ensures.1
    (c.in_err-push_table_change.ensures.undamaged
    (sizes_of_tables found (storable_where (is_definition_named c.args.table.now.definition.name) c.args.catalogue.now.tables all)) (one.table, tt))

pub returns-in_err-push_descriptor_changes-clause-undamaged : goal.returns-in_err-push_descriptor_changes-clause-undamaged
returns-in_err-push_descriptor_changes-clause-undamaged c = λ all one.
    let found = same_found c.args.table.now.definition.name c.name.result.now c.args.catalogue.now.tables _ c.name.ensures c.table-old.ensures c.tables-in_order.ensures.order.tables in
    undamaged_on c.from_residual-in_err-push_descriptor_changes.result c.in_err-push_descriptor_changes.field-0.0 c.from_residual-in_err-push_descriptor_changes.ensures.1
    (c.in_err-push_descriptor_changes.ensures.undamaged
    (descriptors_of_tables found (storable_where (is_definition_named c.args.table.now.definition.name) c.args.catalogue.now.tables all)) one.descriptors)

pub returns-in_err-push_policy_changes-clause-undamaged : goal.returns-in_err-push_policy_changes-clause-undamaged
returns-in_err-push_policy_changes-clause-undamaged c = λ all one.
    let found = same_found c.args.table.now.definition.name c.name.result.now c.args.catalogue.now.tables _ c.name.ensures c.table-old.ensures c.tables-in_order.ensures.order.tables in
    undamaged_on c.from_residual-in_err-push_policy_changes.result c.in_err-push_policy_changes.field-0.0 c.from_residual-in_err-push_policy_changes.ensures.1
    (c.in_err-push_policy_changes.ensures.undamaged
    (policies_of_tables found (storable_where (is_definition_named c.args.table.now.definition.name) c.args.catalogue.now.tables all)) (one.policies, tt))

pub returns-clause-changes : goal.returns-clause-changes
returns-clause-changes c = λ _.
    let name = c.args.table.now.definition.name in
    let tables = c.args.catalogue.now.tables in
    let found = same_found name c.name.result.now tables _ c.name.ensures c.table-old.ensures c.tables-in_order.ensures.order.tables in
    let is = c.table-old.ensures ∙ ap (λ (n : TheName). find (is_definition_named n) tables) c.name.ensures in
    both_added _ _ _ _ c.args.out.now c.push_table_change.new.out c.push_policy_changes.new.out
    (changes_of_put (λ (t : TableDefinition). t.definition.name) table_record table_order c.args.table.now tables c.tables-in_order.ensures.order.tables _ is) refl
    c.in_ok-push_table_change.ensures.ok
    (both_added _ _ _ _ c.push_table_change.new.out c.push_descriptor_changes.new.out c.push_policy_changes.new.out
    (same_gone descriptor_entries _ found) (same_gone policy_entries _ found)
    c.in_ok-push_descriptor_changes.ensures.ok c.in_ok-push_policy_changes.ensures.ok)
