use Rattle.cow_pages.proofs.page_map.PageMap.first_unused.Goals as goal

pub loop-logical-init : goal.loop-logical-init
loop-logical-init c = c.args.self.now.used
