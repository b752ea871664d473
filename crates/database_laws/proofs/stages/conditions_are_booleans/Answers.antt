use Rattle.database_laws.proofs.CheckOrderLemmas.{update_boolean, delete_boolean, select_boolean, policy_boolean}
use Rattle.database_laws.proofs.stages.conditions_are_booleans.Goals as goal

pub returns-clause-of_update : goal.returns-clause-of_update
returns-clause-of_update c = update_boolean

pub returns-clause-of_delete : goal.returns-clause-of_delete
returns-clause-of_delete c = delete_boolean

pub returns-clause-of_select : goal.returns-clause-of_select
returns-clause-of_select c = select_boolean

pub returns-clause-of_policies : goal.returns-clause-of_policies
returns-clause-of_policies c = policy_boolean
