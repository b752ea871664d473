use Rattle.std.proofs.Common.{◌≡◌, ◌⊎◌, ℕ, ◌<◌, length, get_or}
use Rattle.cow_pages.proofs.page_map.PageMap.map_pages.Given as goal

abbrev pub invariant-loop-index : goal.invariant-loop-index
invariant-loop-index l = record {
  count : length l.pages ≡ 64;
  each : (j : ℕ) → j < l.index → ((0 < get_or l.self.reserved j 0) × (get_or l.pages j 0 ≡ get_or l.self.reserved j 0))
      ⊎ ((get_or l.self.reserved j 0 ≡ 0) × (j < length l.self.root.maps) × (get_or l.pages j 0 ≡ get_or l.self.root.maps j 0));
}
