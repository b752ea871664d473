use Rattle.std.proofs.Common.{◌≡◌, length, take, map}
use Rattle.std.specs.Prelude.{bit_xor}
use Rattle.scram_hashes.proofs.hmac.xor_each.Given as goal

abbrev pub invariant-loop-i : goal.invariant-loop-i
invariant-loop-i l = (length l.mixed ≡ 64) × (take l.i l.mixed ≡ map (λ own. bit_xor own l.byte) (take l.i l.block))
