use Rattle.std.proofs.Common.{rules}
use Rattle.std.specs.Ordering.{is_lt}
use Rattle.std.proofs.lemmas.List.Sorted.{answers_always}
use Rattle.abstract_database.specs.Database.{membership_cmp}
use Rattle.role_membership.proofs.Puts.{memberships_total}
use Rattle.role_membership.proofs.Rises.{rising_answer}
use Rattle.role_membership.proofs.memberships.memberships_rise.Goals as goal

pub returns : goal.returns
returns c = rising_answer membership_cmp memberships_total c.args.memberships.now c.is_sorted_by.result (c.is_sorted_by.ensures.cases (λ x y. is_lt (membership_cmp x y)) (answers_always _ _ _ (λ f a r g called. search rules)))
