use Rattle.catalogue.proofs.descriptor_edit.add_each.Goals as goal

pub add-requires-clause-order : goal.add-requires-clause-order
add-requires-clause-order c = c.loop-entry.invariant.order
