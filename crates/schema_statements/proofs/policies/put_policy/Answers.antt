use Rattle.std.proofs.Common.{arith}
use Rattle.std.specs.Ordering.{is_gt}
use Rattle.std.proofs.lemmas.List.Sums.{prefix_len-le-length}
use Rattle.abstract_database.specs.Lists.{name_cmp}
use Rattle.catalogue.specs.declared.policy.CataloguePolicy.{CataloguePolicy}
use Rattle.schema_statements.proofs.policies.put_policy.Goals as goal

pub insert-requires : goal.insert-requires
insert-requires c =
    let within = prefix_len-le-length (λ (old : CataloguePolicy). is_gt (name_cmp c.args.policy.policy.name old.policy.name)) c.as_slice.result.now in
    omega (arith, within, c.place_of-place.ensures, c.as_slice.ensures.len)
