use Rattle.database_laws.proofs.MembershipLemmas.{memberships_taken, options_cleared, others_left}
use Rattle.database_laws.proofs.memberships.revoke_takes_the_named_memberships.Goals as goal

pub returns-clause-memberships : goal.returns-clause-memberships
returns-clause-memberships c = memberships_taken

pub returns-clause-options : goal.returns-clause-options
returns-clause-options c = options_cleared

pub returns-clause-nothing_else : goal.returns-clause-nothing_else
returns-clause-nothing_else c = others_left
