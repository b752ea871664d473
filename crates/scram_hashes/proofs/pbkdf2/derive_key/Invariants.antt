use Rattle.std.proofs.Common.{◌≡◌, ◌≤◌, ◌-◌}
use Rattle.scram_hashes.specs.Hmac.{IsReadyFor}
use Rattle.scram_hashes.specs.Pbkdf2.{code_number, xor_up_to}
use Rattle.scram_hashes.proofs.pbkdf2.derive_key.Given as goal

abbrev pub invariant-loop-n : goal.invariant-loop-n
invariant-loop-n l = (1 ≤ l.n) × IsReadyFor l.password l.key
    × (l.code ≡ code_number l.password l.salt (l.n - 1)) × (l.mixed ≡ xor_up_to l.password l.salt (l.n - 1))
