use Rattle.std.proofs.Common.{◌≡◌, ◌⊎◌, ℕ, ◌<◌, ◌≤◌, get_or}
use Rattle.cow_pages.proofs.page_map.PageMap.restore_part.Given as goal

abbrev pub invariant-loop-logical : goal.invariant-loop-logical
invariant-loop-logical l = record {
  root : l.self.root ≡ l.fn.self.root;
  durable : l.self.durable.items ≡ l.fn.self.durable.items;
  reserved : l.self.reserved ≡ l.fn.self.reserved;
  here : (k : ℕ) → l.from ≤ k → k < l.logical → get_or l.self.working.items k 0 ≡ get_or l.fn.self.durable.items k 0;
  others : (k : ℕ) → (k < l.from) ⊎ (l.to ≤ k) → get_or l.self.working.items k 0 ≡ get_or l.fn.self.working.items k 0;
}
