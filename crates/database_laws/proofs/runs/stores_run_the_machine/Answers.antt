use Rattle.database_laws.proofs.RunLemmas.{own_transition, own_run, refused_over}
use Rattle.database_laws.proofs.runs.stores_run_the_machine.Goals as goal

pub returns-clause-event : goal.returns-clause-event
returns-clause-event g c = own_transition g.R.Reader.Reads g.S.Stopping.Leave

pub returns-clause-run : goal.returns-clause-run
returns-clause-run g c = own_run g.R.Reader.Reads g.S.Stopping.Leave

pub returns-clause-refused : goal.returns-clause-refused
returns-clause-refused g c = refused_over g.R.Reader.Reads g.S.Stopping.Leave
