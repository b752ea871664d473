use Rattle.catalogue.proofs.descriptor_change.DescriptorChange.added.Goals as goal

pub returns-clause-own : goal.returns-clause-own
returns-clause-own c = rw (← c.self.view_is) c.self.invariant
