use Rattle.std.proofs.Common.{◌≡◌, ◌+◌, take, arith}
use Rattle.cow_pages.proofs.Owning.{next_is}
use Rattle.cow_pages.proofs.page_map.PageMap.next_root.Goals as goal

pub returns-clause-next : goal.returns-clause-next
returns-clause-next c =
    let m = c.args.self.now in
    let pages = c.map_pages-pages.result in
    let made : c.new.result ≡ record { format = c.args.format; number = m.root.number + 1; pages = m.root.pages; maps = take c.args.count pages } = rw (c.number.ensures.number, c.pages.ensures) at c.new.ensures in
    next_is m c.args.count pages c.requires.least c.requires.most (omega arith) c.requires.each c.map_pages-pages.ensures c.new.result c.args.format made c.requires.used c.requires.unreserved c.requires.beyond
