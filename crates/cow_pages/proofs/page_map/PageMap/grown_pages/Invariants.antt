use Rattle.std.proofs.Common.{◌≡◌, ◌≤◌, ◌+◌}
use Rattle.cow_pages.specs.Used.{named_below}
use Rattle.cow_pages.proofs.page_map.PageMap.grown_pages.Given as goal

-- the entries so far are counted, and those below the span are the same
abbrev pub invariant-loop-entry : goal.invariant-loop-entry
invariant-loop-entry l = record {
  few_before : l.before ≤ l.entry;
  few_after : l.after ≤ l.entry;
  counted : l.after + named_below l.entry l.self.durable.items ≡ l.before + named_below l.entry l.self.working.items;
}
