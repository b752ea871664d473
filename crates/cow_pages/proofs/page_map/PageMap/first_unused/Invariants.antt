use Rattle.std.proofs.Common.{ℕ, ◌<◌, get_or}
use Rattle.cow_pages.proofs.page_map.PageMap.first_unused.Given as goal

abbrev pub invariant-loop-logical : goal.invariant-loop-logical
invariant-loop-logical l = (k : ℕ) → k < l.logical → 0 < get_or l.self.working.items k 0
