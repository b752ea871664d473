use Rattle.std.proofs.Common.{◌≡◌, ◌+◌, ◌<◌, ◌++◌, ◌∷◌, [], length, get_or, map, drop, ap, sym, ◌∙◌, subst}
use Rattle.std.proofs.lemmas.List.{map-append}
use Rattle.sql_ast.specs.declared.role.Membership.{Membership}
use Rattle.abstract_database.specs.Whole.{Each}
use Rattle.descriptions.specs.declared.memberships.MembershipDescription.{MembershipDescription}
use Rattle.descriptions.specs.Descriptions.{LeadsTo}
use Rattle.descriptions.proofs.Finding.{each_more}
use Rattle.table_access.proofs.Gathering.{Copies, copies_one}
use Rattle.table_access.proofs.ways.all_memberships.Goals as goal

abbrev one_of : MembershipDescription → Membership
one_of x = x.membership.now

pub loop-membership-preserved : goal.loop-membership-preserved
loop-membership-preserved c =
    let all = c.args.memberships.now in
    let same = c.as_slice-membership-items.ensures.items in
    let i = c.loop-membership.membership-index in
    let m = c.membership-item.result in
    let old = c.loop-membership.found.items in
    let list = c.in_ok-push.ensures.items in
    record {
      all = subst (Copies (λ (x : Membership). x) all (drop (i + 1) all)) (sym (ap (map one_of) list ∙ map-append one_of old _))
          (copies_one (λ (x : Membership). x) all all i m (c.membership-item.is ∙ ap (λ s. get_or s i m) same) (subst (λ s. i < length s) same c.loop-membership-test.true) (map one_of old) c.loop-membership.invariant.all);
      leads_to = subst (Each (LeadsTo all)) (sym list) (each_more (LeadsTo all) old _ c.loop-membership.invariant.leads_to c.in_ok-leads_to.ensures.test);
    }
