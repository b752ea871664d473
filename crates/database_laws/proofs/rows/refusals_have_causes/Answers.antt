use Rattle.database_laws.proofs.CauseLemmas.{insert_cause, update_cause, delete_cause}
use Rattle.database_laws.proofs.SelectCauses.{select_cause}
use Rattle.database_laws.proofs.rows.refusals_have_causes.Goals as goal

pub returns-clause-select : goal.returns-clause-select
returns-clause-select c = select_cause

pub returns-clause-insert : goal.returns-clause-insert
returns-clause-insert c = insert_cause

pub returns-clause-update : goal.returns-clause-update
returns-clause-update c = update_cause

pub returns-clause-delete : goal.returns-clause-delete
returns-clause-delete c = delete_cause
