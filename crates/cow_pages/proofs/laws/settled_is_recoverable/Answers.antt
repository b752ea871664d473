use Rattle.cow_pages.proofs.Meaning.{settled_recoverable}
use Rattle.cow_pages.proofs.laws.settled_is_recoverable.Goals as goal

pub returns : goal.returns
returns g c root entries settled = settled_recoverable _ root entries settled
