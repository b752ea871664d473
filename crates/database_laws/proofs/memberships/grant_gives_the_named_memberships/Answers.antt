use Rattle.database_laws.proofs.MembershipLemmas.{given_alone, all_given, none_taken}
use Rattle.database_laws.proofs.memberships.grant_gives_the_named_memberships.Goals as goal

pub returns-clause-nothing_else : goal.returns-clause-nothing_else
returns-clause-nothing_else c = given_alone

pub returns-clause-all : goal.returns-clause-all
returns-clause-all c = all_given

pub returns-clause-nothing_taken : goal.returns-clause-nothing_taken
returns-clause-nothing_taken c = none_taken
