use Rattle.abstract_database.specs.Runs.{Happens}
use Rattle.database_laws.specs.Runs.{Next}
use Rattle.database_laws.proofs.RunLemmas.{joined, parted}
use Rattle.database_laws.proofs.runs.runs_join.Goals as goal

pub returns-clause-machine : goal.returns-clause-machine
returns-clause-machine g c = (joined (Next g.R.Reader.Reads), parted (Next g.R.Reader.Reads))

pub returns-clause-store : goal.returns-clause-store
returns-clause-store g c = (joined (Happens g.R.Reader.Reads g.S.Stopping.Leave), parted (Happens g.R.Reader.Reads g.S.Stopping.Leave))
