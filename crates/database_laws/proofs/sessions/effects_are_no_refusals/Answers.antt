use Rattle.database_laws.proofs.StatementLemmas.{exec_answers}
use Rattle.database_laws.proofs.sessions.effects_are_no_refusals.Goals as goal

pub returns : goal.returns
returns c = exec_answers
