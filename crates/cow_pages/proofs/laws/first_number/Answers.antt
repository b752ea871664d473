use Rattle.cow_pages.proofs.Faults.{means_numbered}
use Rattle.cow_pages.proofs.laws.first_number.Goals as goal

pub returns : goal.returns
returns c image pages format number array means = means_numbered pages format number array image means
