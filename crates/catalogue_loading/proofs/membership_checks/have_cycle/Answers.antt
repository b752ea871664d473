use Rattle.std.proofs.Common.{◌≡◌, ◌∙◌, ◌≤◌, ◌-◌, List, Some, get_or, slice_get, sym, refl, subst, length, arith}
use Rattle.std.proofs.lemmas.Option.{slice_get_read}
use Rattle.sql_ast.specs.declared.role.Membership.{Membership}
use Rattle.catalogue_loading.proofs.Cycles.{cycle_found, no_cycle, none_more, none_again, element_at}
use Rattle.catalogue_loading.proofs.membership_checks.have_cycle.Goals as goal
use Rattle.catalogue_loading.proofs.membership_checks.have_cycle.Goals.{then-is_first_of_role+in_ok-is_in_a_member+else-branch, else-is_first_of_role}

pub returns-then-branch : goal.returns-then-branch
returns-then-branch c = (λ e. cycle_found c.args.memberships.now (get_or c.as_slice-list.result.now c.loop-index.index c.index-list-index.result).role (sym c.in_ok-is_in_a_member.ensures ∙ c.if-branch.true), λ h. refl)

pub loop-index-preserved : goal.loop-index-preserved
loop-index-preserved c =
    let all = c.args.memberships.now in
    let ms = c.as_slice-list.result.now in
    let same = c.as_slice-list.ensures.items in
    let i = c.loop-index.index in
    elim c.if-is_first_of_role.branch [
      | then-is_first_of_role+in_ok-is_in_a_member+else-branch w ↦
          let m = get_or ms i w.index-list-index.result in
          none_more all i m
          (subst (λ (l : List Membership). slice_get l i ≡ Some m) same (subst (λ (x : Membership). slice_get ms i ≡ Some x) w.index-list-index.is (slice_get_read ms (length ms) i _ refl (omega (arith, c.loop-index-test.true, c.loop-index.auto)) w.index-list-index.is))) c.loop-index.invariant
          (sym w.in_ok-is_in_a_member.ensures ∙ w.if-branch.false)
      | else-is_first_of_role w ↦
          let before = element_at ms (i - 1) (omega (arith, c.loop-index-test.true, c.loop-index.auto)) in
          let here = element_at ms i (omega (arith, c.loop-index-test.true, c.loop-index.auto)) in
          let one = c.is_first_of_role.ensures w.if-is_first_of_role.false before.0 here.0 before.1 here.1 in
          none_again all i before.0 here.0 one.0 (subst (λ (l : List Membership). slice_get l (i - 1) ≡ Some before.0) same before.1)
          (subst (λ (l : List Membership). slice_get l i ≡ Some here.0) same here.1) one.1 c.loop-index.invariant
    ]

pub returns : goal.returns
returns c =
    let past : length c.as_slice-list.result.now ≤ c.loop-index.index = omega (arith, c.loop-index-test.false, c.loop-index.auto) in
    (λ e. cc, λ h. absurd (no_cycle c.args.memberships.now c.loop-index.index (subst (λ (l : List Membership). length l ≤ c.loop-index.index) c.as_slice-list.ensures.items past) c.loop-index.invariant h))
