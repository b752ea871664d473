use Rattle.database_laws.proofs.GrantLemmas.{after_grant, named_held, nothing_taken}
use Rattle.database_laws.proofs.grants.grant_gives_what_it_names.Goals as goal

pub returns-clause-nothing_else : goal.returns-clause-nothing_else
returns-clause-nothing_else c = after_grant

pub returns-clause-all : goal.returns-clause-all
returns-clause-all c = named_held

pub returns-clause-nothing_taken : goal.returns-clause-nothing_taken
returns-clause-nothing_taken c = nothing_taken
