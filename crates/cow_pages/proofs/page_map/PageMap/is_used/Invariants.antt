use Rattle.std.proofs.Common.{◌≡◌, ℕ, ◌<◌, ◌≤◌, ◌*◌, get_or}
use Rattle.cow_pages.proofs.page_map.PageMap.is_used.Given as goal

abbrev pub invariant-loop-entry : goal.invariant-loop-entry
invariant-loop-entry l = (k : ℕ) → 1024 * l.index ≤ k → k < l.entry → get_or l.self.working.items k 0 ≡ 0
