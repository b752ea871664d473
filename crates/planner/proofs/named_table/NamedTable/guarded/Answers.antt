use Rattle.std.proofs.Common.{sym, subst}
use Rattle.planner.specs.Rights.{AreItsRoles}
use Rattle.planner.proofs.named_table.NamedTable.guarded.Goals as goal

pub returns : goal.returns
returns c = record {
  table = c.in_ok-source.ensures.table;
  guard = c.in_ok-source.ensures.guard;
  roles = subst (AreItsRoles c.args.catalogue.now c.args.current.now) (sym c.into_roles-roles.ensures) c.requires.roles;
}
