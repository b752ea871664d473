use Rattle.planner.proofs.named_table.NamedTable.find.Goals as goal

pub returns-clause-found : goal.returns-clause-found
returns-clause-found c = record { rights = c.in_ok-rights.ensures; found = c.in_ok-table.ensures }
