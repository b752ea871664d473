use Rattle.abstract_database.specs.Whole.{IsWholeRole}
use Rattle.catalogue_loading.proofs.Lists.{each_more, each_all}
use Rattle.catalogue_loading.proofs.name_checks.know_roles.Goals as goal

pub loop-role-preserved : goal.loop-role-preserved
loop-role-preserved c = each_more IsWholeRole c.args.roles.now c.loop-role.role-index c.role-item.result c.loop-role-test.true c.role-item.is c.loop-role.invariant c.know_name.ensures

pub returns : goal.returns
returns c = each_all IsWholeRole c.args.roles.now c.loop-role.role-index c.loop-role-test.false c.loop-role.invariant
