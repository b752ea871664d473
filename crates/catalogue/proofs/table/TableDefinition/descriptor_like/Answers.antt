use Rattle.std.proofs.Common.{rules, ◌∙◌, sym, subst, Ok, Err}
use Rattle.std.proofs.lemmas.Fn.{always_returns_same}
use Rattle.sql_ast.specs.declared.privilege.Descriptor.{Descriptor}
use Rattle.abstract_database.specs.Lists.{Rising}
use Rattle.abstract_database.specs.Database.{descriptor_cmp}
use Rattle.catalogue.proofs.Placing.{searched_like}
use Rattle.catalogue.proofs.Searching.{lent_at}
use Rattle.catalogue.proofs.table.TableDefinition.descriptor_like.Goals as goal

pub returns-in-Ok : goal.returns-in-Ok
returns-in-Ok c =
    let facts = c.in-Ok.ensures in
    let all = c.descriptors-descriptors.ensures in
    let rise = subst (Rising descriptor_cmp) (sym all.descriptors) all.order.descriptor_order in
    let found = searched_like c.args.descriptor.now c.descriptors-descriptors.result.now rise (Ok c.in-Ok.index) facts.bound (facts.position (λ (d : Descriptor). descriptor_cmp d c.args.descriptor.now) (always_returns_same _ _ _ (λ a r g called. search rules))) in
    rw (← all.descriptors) (lent_at c.descriptors-descriptors.result.now c.in-Ok.index _ c.get.ensures.lookup.3 ∙ found)

pub returns-in-Err : goal.returns-in-Err
returns-in-Err c =
    let facts = c.in-Err.ensures in
    let all = c.descriptors-descriptors.ensures in
    let rise = subst (Rising descriptor_cmp) (sym all.descriptors) all.order.descriptor_order in
    let found = searched_like c.args.descriptor.now c.descriptors-descriptors.result.now rise (Err c.in-Err.field-0) facts.bound (facts.position (λ (d : Descriptor). descriptor_cmp d c.args.descriptor.now) (always_returns_same _ _ _ (λ a r g called. search rules))) in
    rw (← all.descriptors) (sym found)
