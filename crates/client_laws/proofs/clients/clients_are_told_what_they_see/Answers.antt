use Rattle.client_laws.proofs.Told.{clients_told, answers_placed, clients_patterns}
use Rattle.client_laws.proofs.clients.clients_are_told_what_they_see.Goals as goal

pub returns-clause-runs : goal.returns-clause-runs
returns-clause-runs c = clients_told

pub returns-clause-answers : goal.returns-clause-answers
returns-clause-answers c = answers_placed

pub returns-clause-patterns : goal.returns-clause-patterns
returns-clause-patterns c = clients_patterns
