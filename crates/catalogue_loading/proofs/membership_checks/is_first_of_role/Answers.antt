use Rattle.std.proofs.Common.{◌-◌, arith}
use Rattle.catalogue_loading.proofs.Cycles.{one_role}
use Rattle.catalogue_loading.proofs.membership_checks.is_first_of_role.Goals as goal

pub returns-else-index-eq0 : goal.returns-else-index-eq0
returns-else-index-eq0 c = λ e before m at_before at. (
  omega (arith, c.if-index-eq0.false),
  one_role c.args.memberships.now (c.args.index - 1) c.args.index c.index-memberships-index.result c.index-memberships-index-else-index-eq0.result (omega (arith, c.requires, c.if-index-eq0.false)) c.requires
      c.index-memberships-index.is c.index-memberships-index-else-index-eq0.is c.have_one_role.result c.have_one_role.ensures e before m at_before at,
)
