use Rattle.cow_pages.proofs.Meaning.{one_meaning}
use Rattle.cow_pages.proofs.laws.one_meaning.Goals as goal

pub returns : goal.returns
returns c image pages others f g m n a b first second = one_meaning pages others f g m n a b image first second
