use Rattle.std.proofs.Common.{◌≡◌, ◌+◌, ◌++◌, ◌∷◌, [], map, drop, ap, sym, ◌∙◌, subst}
use Rattle.std.proofs.lemmas.List.{map-append}
use Rattle.sql_ast.specs.declared.role.Membership.{Membership}
use Rattle.abstract_database.specs.Roles.{is_of_member}
use Rattle.abstract_database.specs.Whole.{Each}
use Rattle.descriptions.specs.declared.memberships.MembershipDescription.{MembershipDescription}
use Rattle.descriptions.specs.Descriptions.{LeadsTo}
use Rattle.descriptions.proofs.Finding.{Finds, slice_takes, slice_passes, each_more}
use Rattle.descriptions.proofs.memberships.describe_memberships.Goals.{then-eq+in_ok-describe_membership+in_ok-push, else-eq}
use Rattle.descriptions.proofs.memberships.describe_memberships.Goals as goal

abbrev one_of : MembershipDescription → Membership
one_of m = m.membership.now

pub loop-membership-preserved : goal.loop-membership-preserved
loop-membership-preserved c =
    let all = c.args.memberships.now in
    let slice = c.as_slice-membership-items.result.now in
    let same : slice ≡ all = c.as_slice-membership-items.ensures.items in
    let i = c.loop-membership.membership-index in
    let m = c.membership-item.result in
    let old = c.loop-membership.found.items in
    elim c.if-eq.branch [
      | then-eq+in_ok-describe_membership+in_ok-push w ↦
          let one = w.in_ok-describe_membership.field-0 in
          let list : c.if-eq.found.items ≡ old ++ one ∷ [] = ap (λ v. v.items) w.found-is ∙ w.in_ok-push.ensures.items in
          let names : map one_of c.if-eq.found.items ≡ map one_of old ++ m ∷ [] =
          ap (map one_of) list ∙ map-append one_of old (one ∷ []) ∙ ap (λ x. map one_of old ++ x ∷ []) w.in_ok-describe_membership.ensures.membership in
          record {
            found = subst (Finds (is_of_member c.args.member.now) all (drop (i + 1) all)) (sym names)
                (slice_takes (is_of_member c.args.member.now) all slice same i m c.membership-item.is c.loop-membership-test.true (map one_of old) (sym c.eq.ensures ∙ w.if-eq.true) c.loop-membership.invariant.found);
            leads_to = subst (Each (LeadsTo all)) (sym list) (each_more (LeadsTo all) old one c.loop-membership.invariant.leads_to w.in_ok-describe_membership.ensures.leads_to);
          }
      | else-eq w ↦
          let list : old ≡ c.if-eq.found.items = ap (λ v. v.items) (sym w.found-is) in
          record {
            found = subst (λ l. Finds (is_of_member c.args.member.now) all (drop (i + 1) all) (map one_of l)) list
                (slice_passes (is_of_member c.args.member.now) all slice same i m c.membership-item.is c.loop-membership-test.true (map one_of old) (sym c.eq.ensures ∙ w.if-eq.false) c.loop-membership.invariant.found);
            leads_to = subst (Each (LeadsTo all)) list c.loop-membership.invariant.leads_to;
          }
    ]
