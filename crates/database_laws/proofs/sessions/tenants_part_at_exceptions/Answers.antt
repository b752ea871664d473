use Rattle.database_laws.proofs.ToldApart.{machines_part, machines_part_behind, machines_go_on}
use Rattle.database_laws.proofs.sessions.tenants_part_at_exceptions.Goals as goal

pub returns-clause-own : goal.returns-clause-own
returns-clause-own c = machines_part

pub returns-clause-behind : goal.returns-clause-behind
returns-clause-behind c = machines_part_behind

pub returns-clause-alike : goal.returns-clause-alike
returns-clause-alike c = machines_go_on
