use Rattle.std.proofs.Common.{◌∙◌, sym, ap, get_or, arith, is_eq}
use Rattle.std.proofs.lemmas.Option.{slice_get-get_or, slice_get_within, same_Some}
use Rattle.sql_ast.specs.declared.role.Membership.{Membership}
use Rattle.abstract_database.specs.Database.{membership_cmp}
use Rattle.role_membership.specs.Merging.{membership}
use Rattle.role_membership.proofs.Puts.{is_equal}
use Rattle.role_membership.proofs.merge.MembershipMerge.is_next.Goals as goal

pub returns-then-self-clause-equal : goal.returns-then-self-clause-equal
returns-then-self-clause-equal c = λ e.
    let ms = c.args.self.now.memberships.now in
    let m = get_or ms c.args.self.now.next c.index-self-self.result in
    let here = slice_get-get_or ms c.args.self.now.next c.index-self-self.result c.if-self.true in
    (m, here, λ admin. sym (c.compare.ensures admin) ∙ is_equal c.compare.result (sym c.is_eq.ensures ∙ e))

pub returns-then-self-clause-other : goal.returns-then-self-clause-other
returns-then-self-clause-other c = λ e admin n there.
    let ms = c.args.self.now.memberships.now in
    let m = get_or ms c.args.self.now.next c.index-self-self.result in
    let here = slice_get-get_or ms c.args.self.now.next c.index-self-self.result c.if-self.true in
    let same = same_Some m n (sym here ∙ there) in
    ap (λ (x : Membership). is_eq (membership_cmp (membership c.args.role.now admin c.args.member.now) x)) (sym same)
    ∙ ap is_eq (sym (c.compare.ensures admin)) ∙ sym c.is_eq.ensures ∙ e

pub returns-else-self-clause-other : goal.returns-else-self-clause-other
returns-else-self-clause-other c = λ e admin n there.
    let within = slice_get_within c.args.self.now.memberships.now c.args.self.now.next n there in
    absurd (omega (arith, within, c.if-self.false))
