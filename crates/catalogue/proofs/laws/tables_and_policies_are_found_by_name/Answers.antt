use Rattle.catalogue.proofs.ValidDefinitions.{table_found, policy_found}
use Rattle.catalogue.proofs.laws.tables_and_policies_are_found_by_name.Goals as goal

pub returns-clause-table : goal.returns-clause-table
returns-clause-table c d rows name many = table_found name d.tables rows many

pub returns-clause-policy : goal.returns-clause-policy
returns-clause-policy c d t name v among = policy_found d v t among name
