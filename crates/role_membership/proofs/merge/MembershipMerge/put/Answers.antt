use Rattle.std.proofs.Common.{◌≡◌, ◌∙◌, ◌++◌, ◌∷◌, [], List, ap, drop}
use Rattle.sql_ast.specs.declared.role.Membership.{Membership}
use Rattle.abstract_database.specs.Database.{membership_cmp}
use Rattle.abstract_database.specs.Lists.{put}
use Rattle.abstract_database.specs.Roles.{raised}
use Rattle.role_membership.specs.Merging.{membership}
use Rattle.role_membership.proofs.Puts.{up_to_pushed}
use Rattle.role_membership.proofs.merge.MembershipMerge.put.Goals as goal

pub pass_over-has_option-requires-clause-before : goal.pass_over-has_option-requires-clause-before
pass_over-has_option-requires-clause-before c = c.in_ok-pass_to.ensures.before c.args.admin c.requires.before

pub pass_over-has_option-requires-clause-next : goal.pass_over-has_option-requires-clause-next
pass_over-has_option-requires-clause-next c = c.in_ok-pass_to.ensures.next c.args.admin

pushed_to : (items over front : List Membership) (x y : Membership) → items ≡ over ++ x ∷ [] → x ≡ y → over ≡ front → items ≡ front ++ y ∷ []
pushed_to items over front x y pushed is same = pushed ∙ ap (λ (z : Membership). over ++ z ∷ []) is ∙ ap (λ (l : List Membership). l ++ y ∷ []) same

pub returns-clause-list : goal.returns-clause-list
returns-clause-list c =
    let merge = c.pass_over-has_option.new.self in
    ap (λ (l : List Membership). l ++ drop merge.next merge.memberships.now)
    (pushed_to _ _ _ _ _ c.in_ok-push.ensures.items c.in_ok-membership.ensures c.pass_over-has_option.ensures.merged)
    ∙ c.pass_over-has_option.ensures.list
    ∙ ap (put membership_cmp raised (membership c.args.role.now c.args.admin c.args.member.now)) c.in_ok-pass_to.ensures.list

pub returns-clause-up_to : goal.returns-clause-up_to
returns-clause-up_to c =
    let merge = c.pass_to.new.self in
    rw (pushed_to _ _ _ _ _ c.in_ok-push.ensures.items c.in_ok-membership.ensures c.pass_over-has_option.ensures.merged)
    (up_to_pushed merge.memberships.now merge.merged.items merge.next c.args.role.now c.args.member.now c.args.admin
    (c.in_ok-pass_to.ensures.before c.args.admin c.requires.before) c.pass_over-has_option.result)
