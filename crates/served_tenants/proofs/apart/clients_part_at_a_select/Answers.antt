use Rattle.served_tenants.proofs.RunsApart.{runs_meet, runs_part}
use Rattle.served_tenants.proofs.apart.clients_part_at_a_select.Goals as goal

pub returns-clause-alike : goal.returns-clause-alike
returns-clause-alike c = runs_meet

pub returns-clause-apart : goal.returns-clause-apart
returns-clause-apart c = runs_part
