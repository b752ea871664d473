use Rattle.cow_pages.proofs.Agreed.{agreed_means}
use Rattle.cow_pages.proofs.laws.agreeing_images.Goals as goal

pub returns : goal.returns
returns c image other root pages format number array is agrees means = agreed_means image other root pages format number array is agrees means
