use Rattle.std.proofs.Common.{rules, ◌∙◌, sym, subst}
use Rattle.std.proofs.lemmas.Fn.{always_returns_same}
use Rattle.sql_ast.specs.declared.privilege.Descriptor.{Descriptor}
use Rattle.abstract_database.specs.Lists.{Rising, the_new}
use Rattle.abstract_database.specs.Database.{descriptor_cmp}
use Rattle.abstract_database.proofs.DescriptorOrder.{descriptors_ordered}
use Rattle.catalogue.proofs.Placing.{inserted_by, replaced_by, put_rises}
use Rattle.catalogue.proofs.descriptor_edit.put.Goals as goal

pub returns-in-Ok-clause-descriptors : goal.returns-in-Ok-clause-descriptors
returns-in-Ok-clause-descriptors c =
    let facts = c.in-Ok.ensures in
    let d = c.args.descriptor in
    let found = facts.position (λ (y : Descriptor). descriptor_cmp y d) (always_returns_same _ _ _ (λ a r g called. search rules)) in
    let order = subst (Rising descriptor_cmp) (sym c.as_slice.ensures.value) c.requires.order in
    rw (← c.as_slice.ensures.value) (replaced_by descriptor_cmp descriptors_ordered the_new d c.as_slice.result.now order c.in-Ok.index facts.bound found d)

pub returns-in-Ok-clause-order : goal.returns-in-Ok-clause-order
returns-in-Ok-clause-order c =
    let d = c.args.descriptor in
    subst (Rising descriptor_cmp) (sym (returns-in-Ok-clause-descriptors c))
    (put_rises descriptor_cmp descriptors_ordered the_new d (λ y e z. descriptors_ordered.congr d y z e) c.args.descriptors.now.items c.requires.order)

pub returns-in-Ok-insert-clause-descriptors : goal.returns-in-Ok-insert-clause-descriptors
returns-in-Ok-insert-clause-descriptors c =
    let facts = c.in-Err.ensures in
    let d = c.args.descriptor in
    let found = facts.position (λ (y : Descriptor). descriptor_cmp y d) (always_returns_same _ _ _ (λ a r g called. search rules)) in
    let order = subst (Rising descriptor_cmp) (sym c.as_slice.ensures.value) c.requires.order in
    c.in-Ok-insert.ensures.items ∙ rw (← c.as_slice.ensures.value) (inserted_by descriptor_cmp descriptors_ordered the_new d c.as_slice.result.now c.in-Err.index facts.bound order found)

pub returns-in-Ok-insert-clause-order : goal.returns-in-Ok-insert-clause-order
returns-in-Ok-insert-clause-order c =
    let d = c.args.descriptor in
    subst (Rising descriptor_cmp) (sym (returns-in-Ok-insert-clause-descriptors c))
    (put_rises descriptor_cmp descriptors_ordered the_new d (λ y e z. descriptors_ordered.congr d y z e) c.args.descriptors.now.items c.requires.order)
