use Rattle.catalogue.specs.Policies.{scope_of}
use Rattle.catalogue_loading.proofs.BindingLemmas.{AreBoundSoFar}
use Rattle.catalogue_loading.proofs.parts.bind_policies.Given as goal

abbrev pub invariant-loop-policy : goal.invariant-loop-policy
invariant-loop-policy l = AreBoundSoFar (scope_of l.table l.columns) l.fn.policies l.policy-iterator.rest.items l.bound
