use Rattle.cow_pages.proofs.Meaning.{settled_left}
use Rattle.cow_pages.proofs.laws.settled_images.Goals as goal

pub returns : goal.returns
returns g c root entries image settled left = settled_left _ image root entries settled left
