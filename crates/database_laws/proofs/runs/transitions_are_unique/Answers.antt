use Rattle.database_laws.proofs.RunLemmas.{only_transition, only_run}
use Rattle.database_laws.proofs.runs.transitions_are_unique.Goals as goal

pub returns-clause-event : goal.returns-clause-event
returns-clause-event g c = λ once. only_transition g.R.Reader.Reads once

pub returns-clause-run : goal.returns-clause-run
returns-clause-run g c = λ once. only_run g.R.Reader.Reads once
