use Rattle.std.proofs.Common.{rules}
use Rattle.std.specs.Ordering.{is_lt}
use Rattle.std.proofs.lemmas.List.Sorted.{answers_always}
use Rattle.abstract_database.specs.Database.{policy_cmp}
use Rattle.abstract_database.proofs.DescriptorOrder.{ordered_by}
use Rattle.catalogue.specs.declared.policy.CataloguePolicy.{CataloguePolicy}
use Rattle.role_membership.proofs.Rises.{rising_answer}
use Rattle.catalogue.proofs.Orders.{policies_ordered, rising_map, of_rising_map}
use Rattle.catalogue.proofs.order.policies_rise.Goals as goal

pub returns : goal.returns
returns c =
    let xs = c.args.policies.now in
    let written = λ (p : CataloguePolicy). p.policy in
    let all = rising_answer (λ x y. policy_cmp (written x) (written y)) (ordered_by policies_ordered written) xs c.is_sorted_by.result
    (c.is_sorted_by.ensures.cases (λ x y. is_lt (policy_cmp (written x) (written y))) (answers_always _ _ _ (λ f a r g called. search rules))) in
    (λ e. rising_map written policy_cmp xs (all.0 e), λ r. all.1 (of_rising_map written policy_cmp xs r))
