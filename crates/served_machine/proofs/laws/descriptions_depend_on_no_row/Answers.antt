use Rattle.served_machine.proofs.Describing.{same_description, told_alike}
use Rattle.served_machine.proofs.laws.descriptions_depend_on_no_row.Goals as goal

pub returns-clause-same : goal.returns-clause-same
returns-clause-same g c = λ number m k agree reading. same_description number m k agree reading

pub returns-clause-told : goal.returns-clause-told
returns-clause-told g c = λ number m k agree text d is. told_alike number m k agree g.X.EventHandler.Reads text d is
