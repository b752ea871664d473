use Rattle.catalogue.proofs.descriptor_edit.put_each.Goals as goal

pub put-requires-clause-order : goal.put-requires-clause-order
put-requires-clause-order c = c.loop-descriptor.invariant.order
