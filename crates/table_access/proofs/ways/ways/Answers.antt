use Rattle.std.proofs.Common.{◌≡◌, ◌+◌, ◌++◌, ◌∷◌, [], ◌&&◌, Bool, map, drop, ap, sym, ◌∙◌, subst}
use Rattle.std.specs.Borrow.{Bor}
use Rattle.std.proofs.lemmas.List.{map-append}
use Rattle.sql_ast.specs.declared.role.Membership.{Membership}
use Rattle.abstract_database.specs.Roles.{is_in}
use Rattle.descriptions.specs.declared.memberships.MembershipDescription.{MembershipDescription}
use Rattle.descriptions.proofs.Finding.{Finds}
use Rattle.table_access.proofs.Gathering.{among_item, seen_takes, seen_passes}
use Rattle.table_access.proofs.Shown.{between}
use Rattle.table_access.proofs.ways.ways.Goals.{then-is_between+in_ok-push, else-is_between}
use Rattle.table_access.proofs.ways.ways.Goals as goal

abbrev one_of : MembershipDescription → Membership
one_of x = x.membership.now

abbrev its_now : Bor Membership → Membership
its_now m = m.now

pub loop-one-preserved : goal.loop-one-preserved
loop-one-preserved c =
    let ms = c.args.memberships.now in
    let role = c.args.role.now in
    let other = c.args.other.now in
    let xs = c.args.all.now in
    let i = c.loop-one.one-index in
    let x = c.one-item.result in
    let old = c.loop-one.found.items in
    let test : Membership → Bool = λ m. is_in ms role m.member && is_in ms m.role other in
    let same = between ms role c.args.roles.now other x c.requires.roles (c.requires.all.leads_to x (among_item xs i x c.one-item.is c.loop-one-test.true)) in
    elim c.if-is_between.branch [
      | then-is_between+in_ok-push w ↦
          subst (Finds test ms (map one_of (drop (i + 1) xs))) (sym (ap (λ v. map its_now v.items) w.found-is ∙ ap (map its_now) w.in_ok-push.ensures.items ∙ map-append its_now old _))
          (seen_takes one_of test ms xs i x c.one-item.is c.loop-one-test.true (map its_now old) (sym same ∙ sym c.is_between.ensures ∙ w.if-is_between.true) c.loop-one.invariant)
      | else-is_between w ↦
          subst (λ l. Finds test ms (map one_of (drop (i + 1) xs)) (map its_now l)) (ap (λ v. v.items) (sym w.found-is))
          (seen_passes one_of test ms xs i x c.one-item.is c.loop-one-test.true (map its_now old) (sym same ∙ sym c.is_between.ensures ∙ w.if-is_between.false) c.loop-one.invariant)
    ]
