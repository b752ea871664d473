use Rattle.std.proofs.Common.{◌≡◌, ◌∙◌, take, drop, ap, arith, rules}
use Rattle.std.specs.List.{prefix_len}
use Rattle.std.specs.Ordering.{is_le}
use Rattle.std.proofs.lemmas.List.Sums.{prefix_len-drop_all, prefix_len-drop_no}
use Rattle.sql_ast.specs.declared.role.Membership.{Membership}
use Rattle.abstract_database.specs.Lists.{name_cmp}
use Rattle.role_membership.proofs.Runs.{up_to_first, before_first_failure}
use Rattle.role_membership.proofs.memberships.run_up_to.Goals as goal
use Rattle.role_membership.proofs.memberships.run_up_to.Goals.{then-loop-end-test+else-is_le, else-loop-end-test}

pub returns : goal.returns
returns c =
    let test = λ (m : Membership). is_le (name_cmp m.member c.args.member.now) in
    let members = c.args.by_member.now in
    let none_left : prefix_len test (drop c.loop-end.end members) ≡ 0 =
    elim c.loop-end-test.branch [
      | then-loop-end-test+else-is_le w ↦ prefix_len-drop_no test members c.loop-end.end w.index-by_member-end.result (omega (arith, w.loop-end-test.true)) (search rules)
      | else-loop-end-test w ↦ prefix_len-drop_all test members c.loop-end.end (omega (arith, w.loop-end-test.false))
    ] in
    let all : c.loop-end.end ≡ prefix_len test members = omega (arith, c.loop-end.invariant.0, none_left) in
    c.split_at.ensures.front ∙ ap (λ k. take k members) all ∙ before_first_failure test members (up_to_first c.args.member.now members c.requires)
