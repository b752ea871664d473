use Rattle.std.proofs.Common.{rules}
use Rattle.std.specs.Ordering.{is_lt}
use Rattle.std.proofs.lemmas.List.Sorted.{answers_always}
use Rattle.abstract_database.specs.Lists.{name_cmp}
use Rattle.abstract_database.proofs.DescriptorOrder.{names_ordered}
use Rattle.role_membership.proofs.Rises.{rising_answer}
use Rattle.catalogue_loading.proofs.policy_checks.names_rise.Goals as goal

pub returns : goal.returns
returns c = rising_answer name_cmp names_ordered c.args.names.now c.is_sorted_by.result (c.is_sorted_by.ensures.cases (λ x y. is_lt (name_cmp x y)) (answers_always _ _ _ (λ f a r g called. search rules)))
