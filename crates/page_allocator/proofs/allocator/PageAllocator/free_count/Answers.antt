use Rattle.std.proofs.Common.{List, Bool, subst}
use Rattle.page_allocator.specs.TakenPages.{HasFree}
use Rattle.page_allocator.proofs.Counting.{first_are_free}
use Rattle.page_allocator.proofs.allocator.PageAllocator.free_count.Goals as goal

pub returns : goal.returns
returns c = subst (λ (taken : List Bool). HasFree c.self.inside.free taken) c.self.view_is (first_are_free c.self.inside.order.items c.self.inside.places.items c.self.inside.free c.self.invariant)
