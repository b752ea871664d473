use Rattle.cow_pages.proofs.Faults.{faultless_size, faultless_means, means_faultless}
use Rattle.cow_pages.proofs.laws.faultless_images.Goals as goal

pub returns-clause-size : goal.returns-clause-size
returns-clause-size c = faultless_size

pub returns-clause-meaning : goal.returns-clause-meaning
returns-clause-meaning c = faultless_means

pub returns-clause-no_fault : goal.returns-clause-no_fault
returns-clause-no_fault c = means_faultless
