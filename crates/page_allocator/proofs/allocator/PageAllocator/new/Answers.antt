use Rattle.std.proofs.Common.{arith}
use Rattle.page_allocator.proofs.Changes.{fresh_pages}
use Rattle.page_allocator.proofs.allocator.PageAllocator.new.Goals as goal

pub returns : goal.returns
returns c = record { free = fresh_pages c.in_ok-places.places.items c.args.pages c.requires.some (record { count = omega (arith, c.in_ok-places.places.ok.0, c.in_ok-places.ensures.count); each = c.in_ok-places.ensures.pages }) }
