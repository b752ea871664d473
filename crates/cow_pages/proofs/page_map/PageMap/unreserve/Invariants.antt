use Rattle.std.proofs.Common.{◌≡◌, ℕ, ◌<◌, get_or}
use Rattle.cow_pages.proofs.page_map.PageMap.unreserve.Given as goal

abbrev pub invariant-loop-index : goal.invariant-loop-index
invariant-loop-index l = record {
  root : l.self.root ≡ l.fn.self.root;
  durable : l.self.durable.items ≡ l.fn.self.durable.items;
  working : l.self.working.items ≡ l.fn.self.working.items;
  given : (k : ℕ) → k < l.index → get_or l.self.reserved k 0 ≡ 0;
}
