use Rattle.std.proofs.Common.{◌≡◌, drop}
use Rattle.key_ranges.specs.InOrder.{widest_stop}
use Rattle.key_ranges.proofs.merging.widest_stop.Given as goal

abbrev pub invariant-loop-span : goal.invariant-loop-span
invariant-loop-span l = widest_stop l.stop l.spans ≡ widest_stop l.widest (drop l.span-index l.spans)
