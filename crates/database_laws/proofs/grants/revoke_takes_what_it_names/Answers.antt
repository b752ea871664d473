use Rattle.database_laws.proofs.RevokeLemmas.{restricted, cascaded, left_support, dependents}
use Rattle.database_laws.proofs.grants.revoke_takes_what_it_names.Goals as goal

pub returns-clause-restrict : goal.returns-clause-restrict
returns-clause-restrict c = restricted

pub returns-clause-cascade : goal.returns-clause-cascade
returns-clause-cascade c = cascaded

pub returns-clause-supported : goal.returns-clause-supported
returns-clause-supported c = left_support

pub returns-clause-refused : goal.returns-clause-refused
returns-clause-refused c = dependents
