use Rattle.std.proofs.Common.{◌∙◌, List, sym, ap, subst}
use Rattle.sql_ast.specs.declared.privilege.Descriptor.{Descriptor}
use Rattle.stored_database.specs.Definitions.{TableDefinition}
use Rattle.catalogue.specs.Descriptors.{descriptors_after}
use Rattle.catalogue.specs.Tables.{AreParts}
use Rattle.catalogue.proofs.PartsAfter.{parts_after}
use Rattle.catalogue.proofs.table.TableDefinition.change_descriptors.Goals as goal

pub invariant_of-self : goal.invariant_of-self
invariant_of-self c =
    let parts = c.self.inside.parts in
    let facts = c.changed-descriptors.ensures in
    let same = facts.descriptors ∙ ap (descriptors_after c.args.change) c.replace-descriptors.ensures.value in
    let is = c.requires.table ∙ ap (λ (t : TableDefinition). t.definition.name) (sym c.self.view_is) in (
      subst (λ (ds : List Descriptor). AreParts (record parts { descriptors = ds })) (sym same) (parts_after c.args.change parts is facts.own c.self.invariant.0),
      facts.index,
    )
