use Rattle.catalogue.proofs.table.TableDefinition.policies.Goals as goal

pub returns-clause-bound : goal.returns-clause-bound
returns-clause-bound c = rw (c.as_slice.ensures, ← c.self.view_is) c.self.invariant.0.bound
