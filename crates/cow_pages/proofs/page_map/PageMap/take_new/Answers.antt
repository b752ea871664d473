use Rattle.cow_pages.proofs.Pigeons.{some_unused}
use Rattle.cow_pages.proofs.page_map.PageMap.take_new.Goals as goal

pub returns-in_default-clause-outcome : goal.returns-in_default-clause-outcome
returns-in_default-clause-outcome c = absurd (some_unused _ _ _ _ _ c.args.self.now.allocator c.args.self.now.consistent c.in_default.ensures.none)
