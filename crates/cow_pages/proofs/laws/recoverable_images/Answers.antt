use Rattle.cow_pages.proofs.Meaning.{recoverable_left}
use Rattle.cow_pages.proofs.laws.recoverable_images.Goals as goal

pub returns : goal.returns
returns g c root entries image recoverable left = recoverable_left _ image root entries recoverable left
