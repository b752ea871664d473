use Rattle.client_laws.proofs.Stores.{runs_so}
use Rattle.client_laws.proofs.renumbering.numbers_change_no_run.Goals as goal

pub returns : goal.returns
returns g c = runs_so g.R.Reader.Reads g.S.Stopping.Leave
