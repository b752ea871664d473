use Rattle.database_laws.proofs.LeastGrantorLemmas.{by_itself, is_the_least}
use Rattle.database_laws.proofs.grants.grantors_are_the_least.Goals as goal

pub returns-clause-itself : goal.returns-clause-itself
returns-clause-itself c = by_itself

pub returns-clause-least : goal.returns-clause-least
returns-clause-least c = is_the_least
