use Rattle.std.proofs.Common.{refl}
use Rattle.std.proofs.lemmas.Bool.{false≢true}
use Rattle.catalogue.specs.declared.policy.CataloguePolicy.{CataloguePolicy}
use Rattle.catalogue_loading.specs.ValidityParts.{IsPolicy}
use Rattle.catalogue_loading.proofs.Lists.{each_more, each_all, not_each}
use Rattle.catalogue_loading.proofs.policy_checks.are_policies.Goals as goal

pub returns-then-not-is_policy : goal.returns-then-not-is_policy
returns-then-not-is_policy c = not_each (λ (x : CataloguePolicy). IsPolicy c.args.catalogue.now.roles x.policy) c.args.policies.now c.loop-policy.policy-index c.policy-item.result c.loop-policy-test.true c.policy-item.is
    (λ h. false≢true (c.if-not-is_policy.ensures.1 h))

pub loop-policy-preserved : goal.loop-policy-preserved
loop-policy-preserved c = each_more (λ (x : CataloguePolicy). IsPolicy c.args.catalogue.now.roles x.policy) c.args.policies.now c.loop-policy.policy-index c.policy-item.result c.loop-policy-test.true c.policy-item.is c.loop-policy.invariant
    (c.if-not-is_policy.ensures.0 refl)

pub returns : goal.returns
returns c = (λ e. each_all (λ (x : CataloguePolicy). IsPolicy c.args.catalogue.now.roles x.policy) c.args.policies.now c.loop-policy.policy-index c.loop-policy-test.false c.loop-policy.invariant, λ h. refl)
