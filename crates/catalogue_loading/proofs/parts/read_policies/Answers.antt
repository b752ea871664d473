use Rattle.std.proofs.Common.{◌≡◌, List, Option, subst}
use Rattle.abstract_database.specs.Whole.{Each}
use Rattle.catalogue.specs.declared.policy.CataloguePolicy.{CataloguePolicy}
use Rattle.catalogue.specs.Policies.{scope_of, HasConditions}
use Rattle.catalogue_loading.specs.Held.{BindsPolicies}
use Rattle.catalogue_loading.proofs.BindingLemmas.{policies_held}
use Rattle.catalogue_loading.proofs.parts.read_policies.Goals as goal

pub returns-in-Ok-None-clause-found : goal.returns-in-Ok-None-clause-found
returns-in-Ok-None-clause-found g c = λ s policies there.
    let records = (g.M.Map.state c.args.map.now).map in
    let name = c.args.table.now in
    let scope = scope_of name c.args.columns.now in
    let loaded = policies_held records c.args.id c.new-reader.result.id name c.new-reader.result.table.now c.prefix.result c.in-Ok.policies
    c.new-reader.ensures.id c.new-reader.ensures.table c.prefix.ensures (c.in-Ok.ensures.loaded s) in
    let one : policies ≡ c.in-Ok.policies = c.one_list_of_policies.ensures records name c.args.id policies c.in-Ok.policies
    (λ p of. (there.held.valid p of).stored) (λ p of. (loaded.valid p of).stored) there.held.held loaded.held in
    let fails = subst (λ (o : Option (List CataloguePolicy)). BindsPolicies scope c.in-Ok.policies o) c.in-Ok-None.field-0-is c.in-Ok-None.ensures in
    fails (subst (Each (HasConditions scope)) one there.conditions)
