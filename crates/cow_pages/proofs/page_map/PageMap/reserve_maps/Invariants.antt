use Rattle.std.proofs.Common.{◌≡◌, ℕ, ◌<◌, ◌≤◌, get_or}
use Rattle.cow_pages.specs.PageMap.{IsChanged, HasMapPage}
use Rattle.cow_pages.proofs.page_map.PageMap.reserve_maps.Given as goal

abbrev pub invariant-loop-index : goal.invariant-loop-index
invariant-loop-index l = record {
  root : l.self.root ≡ l.fn.self.root;
  durable : l.self.durable.items ≡ l.fn.self.durable.items;
  working : l.self.working.items ≡ l.fn.self.working.items;
  each : (j : ℕ) → j < l.index → HasMapPage l.fn.self.root.maps l.fn.self.durable.items l.fn.self.working.items l.self.reserved j;
  beyond : (j : ℕ) → l.index ≤ j → get_or l.self.reserved j 0 ≡ 0;
  only : (j : ℕ) → 0 < get_or l.self.reserved j 0 → IsChanged l.fn.self.root.maps l.fn.self.durable.items l.fn.self.working.items j;
}
