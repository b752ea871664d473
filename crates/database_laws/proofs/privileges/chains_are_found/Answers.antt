use Rattle.abstract_database.proofs.ChainLemmas.{found_role, role_found, found_support, support_found}
use Rattle.database_laws.proofs.HoldingLemmas.{privilege_given, given_privilege}
use Rattle.database_laws.proofs.MemberOf.{true_by_chain, false_by_chain}
use Rattle.database_laws.proofs.privileges.chains_are_found.Goals as goal

pub returns-clause-roles : goal.returns-clause-roles
returns-clause-roles c = λ memberships r s. (found_role memberships r s, role_found memberships r s)

pub returns-clause-member_of : goal.returns-clause-member_of
returns-clause-member_of c = λ cell pair db name. (true_by_chain db pair name, false_by_chain db pair name)

pub returns-clause-descriptors : goal.returns-clause-descriptors
returns-clause-descriptors c = λ set d h. (found_support set d h, support_found set d)

pub returns-clause-privileges : goal.returns-clause-privileges
returns-clause-privileges c = λ db role table a. (privilege_given db role table a, given_privilege db role table a)
