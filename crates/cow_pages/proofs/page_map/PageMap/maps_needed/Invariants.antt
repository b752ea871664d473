use Rattle.std.proofs.Common.{◌≡◌, ℕ, ◌<◌, ◌≤◌, ◌*◌, length, get_or}
use Rattle.cow_pages.specs.PageMap.{IsNeeded}
use Rattle.cow_pages.proofs.page_map.PageMap.maps_needed.Given as goal

abbrev pub invariant-loop-index : goal.invariant-loop-index
invariant-loop-index l = record {
  least : length l.self.root.maps ≤ l.count;
  most : l.count ≤ l.index;
  needed : (j : ℕ) → j < l.count → IsNeeded l.self.root.maps l.self.working.items j;
  beyond : (k : ℕ) → 1024 * l.count ≤ k → k < 1024 * l.index → get_or l.self.working.items k 0 ≡ 0;
}
