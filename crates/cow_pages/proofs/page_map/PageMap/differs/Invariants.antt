use Rattle.std.proofs.Common.{◌≡◌, ℕ, ◌<◌, ◌≤◌, get_or}
use Rattle.cow_pages.proofs.page_map.PageMap.differs.Given as goal

abbrev pub invariant-loop-entry : goal.invariant-loop-entry
invariant-loop-entry l = (k : ℕ) → l.from ≤ k → k < l.entry → get_or l.self.working.items k 0 ≡ get_or l.self.durable.items k 0
