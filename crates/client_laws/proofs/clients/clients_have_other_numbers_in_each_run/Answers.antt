use Rattle.client_laws.proofs.TwoRuns.{runs_meet_the_premises, clients_part}
use Rattle.client_laws.proofs.clients.clients_have_other_numbers_in_each_run.Goals as goal

pub returns-clause-alike : goal.returns-clause-alike
returns-clause-alike c = runs_meet_the_premises

pub returns-clause-apart : goal.returns-clause-apart
returns-clause-apart c = clients_part
