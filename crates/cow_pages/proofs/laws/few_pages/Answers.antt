use Rattle.cow_pages.proofs.Faults.{means_few}
use Rattle.cow_pages.proofs.laws.few_pages.Goals as goal

pub returns : goal.returns
returns c = means_few
