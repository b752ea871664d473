use Rattle.std.proofs.Common.{map, drop}
use Rattle.catalogue.specs.Policies.{policies_in}
use Rattle.policy_composer.specs.Formulas.{applies}
use Rattle.descriptions.proofs.Finding.{Finds}
use Rattle.descriptions.proofs.policies.applying.Given as goal

abbrev pub invariant-loop-policy : goal.invariant-loop-policy
invariant-loop-policy l = Finds (applies l.roles l.action) (policies_in l.policies) (policies_in (drop l.policy-index l.policies)) (map (λ p. p.now) l.found.items)
