use Rattle.std.proofs.Common.{rules, ◌∙◌, sym, ap}
use Rattle.std.specs.List.{list_any}
use Rattle.std.specs.Ordering.{is_lt}
use Rattle.std.proofs.lemmas.Fn.{always_returns_same}
use Rattle.std.proofs.lemmas.List.Sorted.{list_any-IsPermutation}
use Rattle.role_membership.specs.Index.{member_cmp}
use Rattle.role_membership.proofs.Runs.{members_less}
use Rattle.role_membership.proofs.memberships.sorted_by_member.Goals as goal

pub returns-clause-order : goal.returns-clause-order
returns-clause-order c = c.sort_unstable_by.ensures.sorted (λ x y. is_lt (member_cmp x y)) members_less (always_returns_same _ _ _ (λ a r f called. search rules))

pub returns-clause-same : goal.returns-clause-same
returns-clause-same c = λ test. sym (list_any-IsPermutation test _ _ c.sort_unstable_by.ensures.permutation) ∙ ap (list_any test) c.in_ok-sorted.ensures
