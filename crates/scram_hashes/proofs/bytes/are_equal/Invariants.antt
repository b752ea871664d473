use Rattle.std.proofs.Common.{◌≡◌, take}
use Rattle.std.specs.Prelude.{◌↔◌}
use Rattle.scram_hashes.proofs.bytes.are_equal.Given as goal

abbrev pub invariant-loop-i : goal.invariant-loop-i
invariant-loop-i l = (l.differences ≡ 0) ↔ (take l.i l.bytes ≡ take l.i l.others)
