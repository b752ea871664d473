use Rattle.std.proofs.Common.{◌≡◌, drop}
use Rattle.key_ranges.specs.InOrder.{least_start}
use Rattle.key_ranges.proofs.merging.least_start.Given as goal

abbrev pub invariant-loop-span : goal.invariant-loop-span
invariant-loop-span l = least_start l.start l.spans ≡ least_start l.least (drop l.span-index l.spans)
