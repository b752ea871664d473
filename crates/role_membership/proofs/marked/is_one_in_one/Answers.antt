use Rattle.std.proofs.Common.{◌∙◌, sym}
use Rattle.role_membership.proofs.Names.{one_in_one}
use Rattle.role_membership.proofs.marked.is_one_in_one.Goals as goal

pub returns : goal.returns
returns c =
    let both = one_in_one c.args.memberships.now c.args.roles.now _ _ c.args.of.now c.in_ok-roles.ensures.among c.in_ok-above.ensures.chains in
    (λ e. both.0 (sym c.contains_any.ensures ∙ e), λ h. c.contains_any.ensures ∙ both.1 h)
