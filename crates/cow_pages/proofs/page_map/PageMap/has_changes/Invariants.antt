use Rattle.std.proofs.Common.{◌≡◌, ℕ, ◌<◌}
use Rattle.cow_pages.specs.Held.{part_of}
use Rattle.cow_pages.proofs.page_map.PageMap.has_changes.Given as goal

abbrev pub invariant-loop-index : goal.invariant-loop-index
invariant-loop-index l = (j : ℕ) → j < l.index → part_of l.self.working.items j ≡ part_of l.self.durable.items j
