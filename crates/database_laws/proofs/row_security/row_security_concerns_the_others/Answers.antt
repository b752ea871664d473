use Rattle.database_laws.proofs.RowSecurityLemmas.{superuser_spared, bypassing_spared, owner_spared, open_without, other_guarded}
use Rattle.database_laws.proofs.row_security.row_security_concerns_the_others.Goals as goal

pub returns-clause-superusers : goal.returns-clause-superusers
returns-clause-superusers c = superuser_spared

pub returns-clause-bypassing : goal.returns-clause-bypassing
returns-clause-bypassing c = bypassing_spared

pub returns-clause-owners : goal.returns-clause-owners
returns-clause-owners c = owner_spared

pub returns-clause-disabled : goal.returns-clause-disabled
returns-clause-disabled c = open_without

pub returns-clause-others : goal.returns-clause-others
returns-clause-others c = other_guarded
