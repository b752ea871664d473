use Rattle.database_laws.proofs.CheckOrderLemmas.{missing_table, missing_role, told_to_all, taken_first, limit_last}
use Rattle.database_laws.proofs.stages.checks_come_in_order.Goals as goal

pub returns-clause-tables : goal.returns-clause-tables
returns-clause-tables c = missing_table

pub returns-clause-roles : goal.returns-clause-roles
returns-clause-roles c = missing_role

pub returns-clause-names : goal.returns-clause-names
returns-clause-names c = λ db users others x code e no_privilege no_limit. told_to_all db users others code no_privilege no_limit x e

pub returns-clause-taken : goal.returns-clause-taken
returns-clause-taken c = taken_first

pub returns-clause-limits : goal.returns-clause-limits
returns-clause-limits c = limit_last
