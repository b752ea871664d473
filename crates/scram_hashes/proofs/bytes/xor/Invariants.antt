use Rattle.std.proofs.Common.{◌≡◌, length, take}
use Rattle.scram_hashes.specs.Pbkdf2.{xor_bytes}
use Rattle.scram_hashes.proofs.bytes.xor.Given as goal

abbrev pub invariant-loop-i : goal.invariant-loop-i
invariant-loop-i l = (length l.mixed ≡ 32) × (take l.i l.mixed ≡ take l.i (xor_bytes l.bytes l.others))
