use Rattle.std.proofs.Common.{◌≡◌, ℕ, replicate, take, rules, arith}
use Rattle.std.proofs.lemmas.List.{take-replicate}
use Rattle.std.proofs.lemmas.Grind.{common_steps}
use Rattle.dumps.proofs.bytes.push_zeros.Goals as goal

pub returns : goal.returns
returns c =
    let e : take c.args.count (replicate {A = ℕ} 4096 0) ≡ replicate c.args.count 0 = take-replicate c.args.count 4096 0 c.requires in
    rw (← e) (first_of (search rules, grind (arith, common_steps)))
