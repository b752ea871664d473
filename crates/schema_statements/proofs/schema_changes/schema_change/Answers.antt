use Rattle.std.proofs.Common.{◌∙◌, sym, ap}
use Rattle.stored_database.specs.Definitions.{TableDefinition}
use Rattle.catalogue.specs.Changes.{changed}
use Rattle.catalogue.specs.declared.change.SchemaChange.TheVariants.{PutTable}
use Rattle.catalogue_changes.proofs.SetLemmas.{set_as_put}
use Rattle.schema_statements.proofs.schema_changes.schema_change.Goals as goal

pub returns : goal.returns
returns c =
    let d = c.args.catalogue.now in
    ap (λ (t : TableDefinition). changed (PutTable t) d) c.in_ok-made_anew.ensures ∙ sym (set_as_put c.args.change d c.args.table.now c.requires.table c.tables-in_order.ensures.order.tables)
