use Rattle.std.proofs.Common.{◌≡◌, ◌∙◌, map, ap, sym}
use Rattle.store.specs.Records.{Records, applied}
use Rattle.stored_database.specs.RecordFormat.{descriptor_record}
use Rattle.catalogue_changes.specs.Differences.{differences, applied_in_turn}
use Rattle.catalogue_changes.specs.SchemaChanges.{tables_named, entries_in}
use Rattle.catalogue_changes.proofs.SetLemmas.{entries_of_table, storable_gone, storable_come}
use Rattle.catalogue_changes.proofs.TableStatementLemmas.{undamaged_on}
use Rattle.catalogue_changes.proofs.descriptor_changes.push_descriptor_records.Goals as goal

pub returns-clause-changes : goal.returns-clause-changes
returns-clause-changes c = λ _ records o.
    let change = c.args.change.now in
    let d = c.args.catalogue.now in
    let t = c.args.table.now in
    let tables = tables_named change.table d in
    let before = applied c.args.out.now records in
    let removed : c.as_slice.result.now ≡ entries_in tables change.removed =
    c.as_slice.ensures.value ∙ c.in_ok-removed.ensures.records ∙ ap (λ n. map (descriptor_record n) c.removed.result.now) c.id.ensures ∙ ap (map (descriptor_record t.id)) c.removed.ensures
    ∙ sym (entries_of_table change d t c.requires.table c.tables-in_order.ensures.order.tables change.removed) in
    let added : c.as_slice-2.result.now ≡ entries_in tables change.added =
    c.as_slice-2.ensures.value ∙ c.in_ok-added.ensures.records ∙ ap (λ n. map (descriptor_record n) c.added.result.now) c.id-2.ensures ∙ ap (map (descriptor_record t.id)) c.added.ensures.added
    ∙ sym (entries_of_table change d t c.requires.table c.tables-in_order.ensures.order.tables change.added) in
    c.in_ok-push_differences.ensures records o
    ∙ ap (λ (es : Records). applied_in_turn (differences es c.as_slice-2.result.now) before) removed
    ∙ ap (λ (es : Records). applied_in_turn (differences (entries_in tables change.removed) es) before) added

pub returns-in_err-removed-clause-undamaged : goal.returns-in_err-removed-clause-undamaged
returns-in_err-removed-clause-undamaged c = λ all one.
    undamaged_on c.from_residual.result c.in_err-removed.field-0.0 c.from_residual.ensures.1
    (c.in_err-removed.ensures.undamaged
    (rw (c.id.ensures, c.removed.ensures) (storable_gone c.args.change.now c.args.catalogue.now c.args.table.now c.requires.table c.requires.change all)))

pub returns-in_err-added-clause-undamaged : goal.returns-in_err-added-clause-undamaged
returns-in_err-added-clause-undamaged c = λ all one.
    undamaged_on c.from_residual-in_err-added.result c.in_err-added.field-0.0 c.from_residual-in_err-added.ensures.1
    (c.in_err-added.ensures.undamaged
    (rw (c.id-2.ensures, c.added.ensures.added) (storable_come c.args.change.now c.args.catalogue.now c.args.table.now c.requires.table c.requires.change one)))
