use Rattle.std.proofs.Common.{◌≡◌, ◌∷◌, List, Option, sym, subst}
use Rattle.sql_ast.specs.declared.policy.Policy.{Policy}
use Rattle.catalogue.specs.declared.policy.CataloguePolicy.{CataloguePolicy}
use Rattle.catalogue.specs.Policies.{scope_of, BindsPolicy}
use Rattle.catalogue_loading.proofs.BindingLemmas.{AreBoundSoFar, one_bound, one_unbound}
use Rattle.catalogue_loading.proofs.parts.bind_policies.Goals as goal

pub loop-policy-preserved : goal.loop-policy-preserved
loop-policy-preserved c =
    let scope = scope_of c.args.table.now c.args.columns.now in
    let rest = c.next.new.self.rest.items in
    let steps : c.loop-policy.policy-iterator.rest.items ≡ c.in-Some.policy ∷ rest = c.in-Some.ensures.steps.0 in
    let so_far = subst (λ (ps : List Policy). AreBoundSoFar scope c.args.policies ps c.loop-policy.bound) steps c.loop-policy.invariant in
    let binds = subst (λ (o : Option CataloguePolicy). BindsPolicy scope c.in-Some.policy o) c.in-Some-2.is c.in_ok-policy.ensures in
    subst (λ (bs : List CataloguePolicy). AreBoundSoFar scope c.args.policies rest bs) (sym c.in_ok-push-in-Some-2.ensures.ok)
    (one_bound scope c.args.policies c.in-Some.policy rest c.in-Some-2.policy c.loop-policy.bound so_far binds)

pub returns-in-None-2 : goal.returns-in-None-2
returns-in-None-2 c =
    let scope = scope_of c.args.table.now c.args.columns.now in
    let rest = c.next.new.self.rest.items in
    let steps : c.loop-policy.policy-iterator.rest.items ≡ c.in-Some.policy ∷ rest = c.in-Some.ensures.steps.0 in
    let so_far = subst (λ (ps : List Policy). AreBoundSoFar scope c.args.policies ps c.loop-policy.bound) steps c.loop-policy.invariant in
    let fails = subst (λ (o : Option CataloguePolicy). BindsPolicy scope c.in-Some.policy o) c.in-None-2.is c.in_ok-policy.ensures in
    one_unbound scope c.args.policies c.in-Some.policy rest c.loop-policy.bound so_far fails
