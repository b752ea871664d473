use Rattle.std.proofs.Common.{not, bytes_eq, rules, tests}
use Rattle.catalogue.specs.declared.policy.CataloguePolicy.{CataloguePolicy}
use Rattle.schema_statements.proofs.Retaining.{filtered}
use Rattle.schema_statements.proofs.policies.drop_named.Goals as goal

pub returns : goal.returns
returns c = filtered _ (λ (x : CataloguePolicy). not (bytes_eq x.policy.name c.args.name.now)) _ (λ x b q k. (search (rules, tests), search (rules, tests))) _ _ c.retain.ensures.filtered
