use Rattle.std.proofs.Common.{◌≡◌, drop}
use Rattle.gathering.specs.KeyOrder.{are_first_of}
use Rattle.gathering.proofs.key_order.are_first_of.Given as goal

abbrev pub invariant-loop-key : goal.invariant-loop-key
invariant-loop-key l = are_first_of l.columns l.keys ≡ are_first_of l.left (drop l.key-index l.keys)
