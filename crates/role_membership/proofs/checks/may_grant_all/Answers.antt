use Rattle.std.proofs.Common.{◌∙◌}
use Rattle.role_membership.proofs.Names.{same_all, same_grantable}
use Rattle.role_membership.proofs.checks.may_grant_all.Goals as goal

pub returns : goal.returns
returns c =
    c.are_grantable.ensures
    ∙ same_all _ _ (λ s. same_grantable _ _ _ _ _ _ c.is_superuser-by_superuser.ensures (c.in_ok-superusers.ensures s) (c.in_ok-administered.ensures s)) c.args.granted.now
