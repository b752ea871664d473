use Rattle.std.proofs.Common.{◌∙◌, ap, sym}
use Rattle.abstract_database.specs.Lists.{has_name}
use Rattle.role_membership.proofs.Names.{has_among, among_has}
use Rattle.role_membership.proofs.Distinct.{rising_of, same_of}
use Rattle.role_membership.proofs.merging.distinct.Goals as goal

pub returns-clause-order : goal.returns-clause-order
returns-clause-order c = rising_of _ _ c.sort_unstable.ensures.sorted c.dedup.ensures.filtered

pub returns-clause-same : goal.returns-clause-same
returns-clause-same c = λ s. same_of s _ _ _ c.sort_unstable.ensures.permutation c.dedup.ensures.filtered ∙ ap (has_name s) c.in_ok-list.ensures.same

pub returns-clause-names : goal.returns-clause-names
returns-clause-names c = λ s h.
    c.in_ok-list.ensures.names s (has_among s _ (sym (same_of s _ _ _ c.sort_unstable.ensures.permutation c.dedup.ensures.filtered) ∙ among_has s _ h))
