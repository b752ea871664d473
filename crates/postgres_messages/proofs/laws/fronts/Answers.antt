use Rattle.postgres_messages.proofs.Fronts.{front_more, bad_more, front_within, front_kept}
use Rattle.postgres_messages.proofs.laws.fronts.Goals as goal

pub returns-clause-front_more : goal.returns-clause-front_more
returns-clause-front_more c = front_more

pub returns-clause-bad_more : goal.returns-clause-bad_more
returns-clause-bad_more c = bad_more

pub returns-clause-within : goal.returns-clause-within
returns-clause-within c = front_within

pub returns-clause-kept : goal.returns-clause-kept
returns-clause-kept c = front_kept
