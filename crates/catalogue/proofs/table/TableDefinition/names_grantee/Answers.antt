use Rattle.catalogue.proofs.table.TableDefinition.names_grantee.Goals as goal

pub returns-clause-named : goal.returns-clause-named
returns-clause-named c = rw (← c.self.view_is) c.self.invariant.1.named
