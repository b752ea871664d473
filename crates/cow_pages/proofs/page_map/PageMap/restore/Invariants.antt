use Rattle.std.proofs.Common.{◌≡◌, ℕ, ◌<◌, ◌*◌, get_or}
use Rattle.cow_pages.proofs.page_map.PageMap.restore.Given as goal

abbrev pub invariant-loop-index : goal.invariant-loop-index
invariant-loop-index l = record {
  root : l.self.root ≡ l.fn.self.root;
  durable : l.self.durable.items ≡ l.fn.self.durable.items;
  reserved : l.self.reserved ≡ l.fn.self.reserved;
  restored : (k : ℕ) → k < 1024 * l.index → get_or l.self.working.items k 0 ≡ get_or l.fn.self.durable.items k 0;
}
