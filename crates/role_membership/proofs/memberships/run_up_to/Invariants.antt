use Rattle.std.proofs.Common.{◌≡◌, ◌+◌, ◌-◌, ◌≤◌, length, drop}
use Rattle.std.specs.List.{prefix_len}
use Rattle.std.specs.Ordering.{is_le}
use Rattle.sql_ast.specs.declared.role.Membership.{Membership}
use Rattle.abstract_database.specs.Lists.{name_cmp}
use Rattle.role_membership.proofs.memberships.run_up_to.Given as goal

-- those before the end are not after the member, and neither are as many behind it as before
abbrev pub invariant-loop-end : goal.invariant-loop-end
invariant-loop-end l =
    (l.end + prefix_len (λ (m : Membership). is_le (name_cmp m.member l.member)) (drop l.end l.by_member) ≡ prefix_len (λ (m : Membership). is_le (name_cmp m.member l.member)) l.by_member)
    × (l.end ≤ length l.by_member)

abbrev pub decreases-loop-end : goal.decreases-loop-end
decreases-loop-end l = length l.by_member - l.end
