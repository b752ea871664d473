use Rattle.std.proofs.Common.{◌≡◌, ◌+◌, ◌-◌, suc, arith, refl}
use Rattle.scram_hashes.specs.Pbkdf2.{code_number, xor_up_to}
use Rattle.scram_hashes.proofs.pbkdf2.derive_key.Goals as goal

pub loop-n-init : goal.loop-n-init
unfolding code_number xor_up_to
loop-n-init c =
    let first = c.code_of_both-code.ensures c.args.password.now c.new-key.ensures in
    (omega arith, c.new-key.ensures, first, first)

pub loop-n-preserved : goal.loop-n-preserved
unfolding code_number xor_up_to
loop-n-preserved c =
    let so_far = c.loop-n.invariant in
    let next : c.loop-n.n + 1 - 1 ≡ suc (c.loop-n.n - 1) = omega arith in
    let code = c.code-code.ensures c.args.password.now so_far.1 in
    (omega arith, so_far.1, rw (next, code, so_far.2) refl, rw (next, c.xor-mixed.ensures, code, so_far.2, so_far.3) refl)
