use Rattle.std.proofs.Common.{◌≡◌, ◌++◌, length, map}
use Rattle.access_texts.specs.Cells.{policy_name}
use Rattle.access_texts.proofs.cells.policy_names.Given as goal

-- what was found, and what is left adds, are all
abbrev pub invariant-loop-rest : goal.invariant-loop-rest
invariant-loop-rest l = map (λ n. n.now) l.names.items ++ map policy_name (map (λ p. p.now) l.rest) ≡ map policy_name (map (λ p. p.now) l.policies)

abbrev pub decreases-loop-rest : goal.decreases-loop-rest
decreases-loop-rest l = length l.rest
