use Rattle.std.proofs.Common.{◌&&◌, ◌∙◌, ◌<◌, ap, Bool, not, length, get_or, arith}
use Rattle.std.proofs.lemmas.Option.{slice_get-get_or}
use Rattle.abstract_database.specs.Roles.{is_named_by}
use Rattle.role_membership.proofs.Changes.{without_option, changed_more, changed_all, option_kept}
use Rattle.role_membership.proofs.revoking.clear_options.Goals as goal

pub loop-membership-preserved : goal.loop-membership-preserved
loop-membership-preserved c =
    let test = is_named_by c.args.roles.now c.args.members.now in
    let now = c.loop-membership.memberships in
    let i = c.loop-membership.membership-index in
    let lt : i < length now = omega (arith, c.loop-membership-test.true, c.loop-membership.auto.memberships) in
    let y = get_or now i c.membership-item.result in
    changed_more test without_option i c.args.memberships.now now y _ c.loop-membership.invariant (slice_get-get_or now i c.membership-item.result lt)
    (ap (λ (b : Bool). record y { admin = b }) (c.keeps_option-membership.ensures ∙ ap (λ (n : Bool). y.admin && not n) c.is_named-named.ensures) ∙ option_kept y (test y))

pub returns : goal.returns
returns c = c.loop-membership.invariant ∙ changed_all (is_named_by c.args.roles.now c.args.members.now) without_option c.loop-membership.membership-index c.args.memberships.now (omega (arith, c.loop-membership-test.false))
