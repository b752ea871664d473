use Rattle.postgres_messages.proofs.Fronts.{start_more, start_bad, start_within, start_kept}
use Rattle.postgres_messages.proofs.laws.start_fronts.Goals as goal

pub returns-clause-front_more : goal.returns-clause-front_more
returns-clause-front_more c = start_more

pub returns-clause-bad_more : goal.returns-clause-bad_more
returns-clause-bad_more c = start_bad

pub returns-clause-within : goal.returns-clause-within
returns-clause-within c = start_within

pub returns-clause-kept : goal.returns-clause-kept
returns-clause-kept c = start_kept
