use Rattle.std.proofs.Common.{sym, subst}
use Rattle.abstract_database.specs.Lists.{Rising}
use Rattle.abstract_database.specs.Database.{role_cmp, membership_cmp}
use Rattle.schema_statements.proofs.MembershipStatements.{left_rises}
use Rattle.schema_statements.proofs.memberships.memberships_after.Goals as goal

pub new-requires-in-Revoke : goal.new-requires-in-Revoke
new-requires-in-Revoke c =
    let revoked = c.in_ok-revoke_roles-in-Revoke.ensures in
    subst (Rising membership_cmp) (sym revoked.revoked)
    (left_rises c.roles-roles.result.now c.in_ok-memberships.memberships.items c.args.current.now c.in-Revoke.revoke.now revoked.allowed
    (subst (Rising role_cmp) (sym c.roles-roles.ensures.roles) c.roles-roles.ensures.order.roles)
    (subst (Rising membership_cmp) (sym c.in_ok-memberships.ensures.items) c.in_ok-memberships.ensures.order))
