use Rattle.postgres_messages.proofs.Fronts.{message_found}
use Rattle.postgres_messages.proofs.Whole.{one_message}
use Rattle.postgres_messages.proofs.laws.messages.Goals as goal

pub returns-clause-found : goal.returns-clause-found
returns-clause-found c = message_found

pub returns-clause-one : goal.returns-clause-one
returns-clause-one c = one_message
