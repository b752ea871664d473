use Rattle.std.proofs.Common.{◌≡◌, ◌++◌}
use Rattle.key_ranges.specs.InOrder.{merged}
use Rattle.key_ranges.proofs.MergedSpans.{merged_with}
use Rattle.key_ranges.proofs.merging.merged.Given as goal

-- the spans that are done, and those that come of the last one and of the others
abbrev pub invariant-loop-span : goal.invariant-loop-span
invariant-loop-span l = merged l.fn.spans.items ≡ l.together.items ++ merged_with l.last l.span-iterator.rest.items
