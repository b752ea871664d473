use Rattle.std.proofs.Common.{◌≡◌, ◌&&◌, ◌∙◌, ap, bytes_eq, Bool, true, false, List, refl}
use Rattle.abstract_database.specs.Lists.{TheName, has_name}
use Rattle.sql_ast.specs.declared.role.Membership.{Membership}
use Rattle.role_membership.proofs.Names.{found_more, found_all, names_symmetric}
use Rattle.role_membership.proofs.checks.held.Goals as goal

abbrev is_it : List TheName → TheName → Membership → Bool
is_it members s m = bytes_eq m.role s && m.admin && has_name m.member members

turned : (a b c : Bool) → ((b && c) && a) ≡ (a && b && c)
turned true true true = refl
turned true true false = refl
turned true false c = refl
turned false true true = refl
turned false true false = refl
turned false false c = refl

pub loop-membership-init : goal.loop-membership-init
loop-membership-init c = λ s. ap (has_name s) c.none-names.ensures

pub loop-membership-preserved : goal.loop-membership-preserved
loop-membership-preserved c = λ s.
    let m = c.membership-item.result in
    let members = c.args.members.now in
    found_more (is_it members s) c.args.memberships.now c.loop-membership.membership-index m _ _ _ c.loop-membership-test.true c.membership-item.is
    (
    ap (λ (b : Bool). b && bytes_eq s m.role) c.is_held.ensures
    ∙ turned (bytes_eq s m.role) m.admin (has_name m.member members)
    ∙ ap (λ (b : Bool). b && m.admin && has_name m.member members) (names_symmetric s m.role)
    )
    (c.in_ok-insert_if.ensures.test s) (c.loop-membership.invariant s)

pub returns : goal.returns
returns c = λ s. found_all (is_it c.args.members.now s) c.args.memberships.now c.loop-membership.membership-index _ c.loop-membership-test.false (c.loop-membership.invariant s)
