use Rattle.cow_pages.proofs.Freed.{has_free}
use Rattle.cow_pages.proofs.cow.CowPages.free_pages.Goals as goal

pub returns : goal.returns
returns g c = has_free c.args.self.now c.free_count.result c.free_count.ensures
