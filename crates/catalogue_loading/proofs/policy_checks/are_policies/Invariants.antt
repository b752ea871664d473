use Rattle.std.specs.Prelude.{take}
use Rattle.abstract_database.specs.Whole.{Each}
use Rattle.catalogue_loading.specs.ValidityParts.{IsPolicy}
use Rattle.catalogue_loading.proofs.policy_checks.are_policies.Given as goal

abbrev pub invariant-loop-policy : goal.invariant-loop-policy
invariant-loop-policy l = Each (λ p. IsPolicy l.catalogue.roles p.policy) (take l.policy-index l.policies)
