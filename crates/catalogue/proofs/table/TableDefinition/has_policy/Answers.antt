use Rattle.std.proofs.Common.{◌∙◌}
use Rattle.abstract_database.specs.Database.{is_policy_named}
use Rattle.catalogue.specs.declared.policy.CataloguePolicy.{CataloguePolicy}
use Rattle.catalogue.proofs.Searching.{is_there_as}
use Rattle.catalogue.proofs.table.TableDefinition.has_policy.Goals as goal

pub returns : goal.returns
returns c =
    let test = is_policy_named c.args.self.now.definition.name c.args.name.now in
    c.is_some.ensures ∙ is_there_as (λ (p : CataloguePolicy). p.policy) test c.args.self.now.policies _ c.policy.ensures.policy
