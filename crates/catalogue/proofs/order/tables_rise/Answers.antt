use Rattle.std.proofs.Common.{rules}
use Rattle.std.specs.Ordering.{is_lt}
use Rattle.std.proofs.lemmas.List.Sorted.{answers_always}
use Rattle.stored_database.specs.Definitions.{definition_cmp}
use Rattle.role_membership.proofs.Rises.{rising_answer}
use Rattle.catalogue.proofs.Orders.{tables_ordered}
use Rattle.catalogue.proofs.order.tables_rise.Goals as goal

pub returns : goal.returns
returns c = rising_answer definition_cmp tables_ordered c.args.tables.now c.is_sorted_by.result (c.is_sorted_by.ensures.cases (λ x y. is_lt (definition_cmp x y)) (answers_always _ _ _ (λ f a r g called. search rules)))
