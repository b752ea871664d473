use Rattle.sql_ast.specs.declared.statement.DefiningStatement.TheVariants as defining
use Rattle.store.proofs.Reading.{none_read}
use Rattle.statements.proofs.Executing as executing
use Rattle.statements.proofs.execute.define.Given as given
use Rattle.statements.proofs.execute.define.Goals as goal

untouched : (g : given.Over) (map : g.row.M.Denot) → executing.Untouched (g.M.Map.state map) (g.M.Map.preserved map map)
untouched g map = record {
  kept = g.M.Map.preserved_same map;
  reads = none_read (g.M.Map.state map) (g.met.M.Map.only_now map);
  ordered = g.met.M.Map.ordered map;
}

pub returns-in-CreateRole : goal.returns-in-CreateRole
returns-in-CreateRole g c = executing.of_session c.session.view_is (executing.by_current (untouched g c.args.map.now) c.create_role.ensures.memory (defining.CreateRole c.in-CreateRole.s) c.in-CreateRole.is c.create_role.ensures.executes)

pub returns-in-DropRole : goal.returns-in-DropRole
returns-in-DropRole g c = executing.of_session c.session.view_is (executing.by_both (untouched g c.args.map.now) c.drop_role.ensures.memory (defining.DropRole c.in-DropRole.s) c.in-DropRole.is c.drop_role.ensures.executes)

pub returns-in-GrantRole : goal.returns-in-GrantRole
returns-in-GrantRole g c = executing.of_session c.session.view_is (executing.by_current (untouched g c.args.map.now) c.grant_or_revoke_roles.ensures.memory (defining.GrantRole c.in-GrantRole.s) c.in-GrantRole.is c.grant_or_revoke_roles.ensures.executes)

pub returns-in-RevokeRole : goal.returns-in-RevokeRole
returns-in-RevokeRole g c = executing.of_session c.session.view_is (executing.by_current (untouched g c.args.map.now) c.grant_or_revoke_roles-in-RevokeRole.ensures.memory (defining.RevokeRole c.in-RevokeRole.s) c.in-RevokeRole.is c.grant_or_revoke_roles-in-RevokeRole.ensures.executes)

pub returns-in-CreateTable : goal.returns-in-CreateTable
returns-in-CreateTable g c = executing.of_session c.session.view_is (executing.create_table (untouched g c.args.map.now) c.create_table.ensures.memory c.in-CreateTable.s c.in-CreateTable.is c.create_table.ensures.executes)

pub returns-in-AlterTable : goal.returns-in-AlterTable
returns-in-AlterTable g c = executing.of_session c.session.view_is (executing.by_current (untouched g c.args.map.now) c.alter_table.ensures.memory (defining.AlterTable c.in-AlterTable.s) c.in-AlterTable.is c.alter_table.ensures.executes)

pub returns-in-CreatePolicy : goal.returns-in-CreatePolicy
returns-in-CreatePolicy g c = executing.of_session c.session.view_is (executing.create_policy (untouched g c.args.map.now) c.create_policy.ensures.memory c.in-CreatePolicy.s c.in-CreatePolicy.is c.create_policy.ensures.executes)

pub returns-in-DropPolicy : goal.returns-in-DropPolicy
returns-in-DropPolicy g c = executing.of_session c.session.view_is (executing.by_current (untouched g c.args.map.now) c.drop_policy.ensures.memory (defining.DropPolicy c.in-DropPolicy.s) c.in-DropPolicy.is c.drop_policy.ensures.executes)

pub returns-in-Grant : goal.returns-in-Grant
returns-in-Grant g c = executing.of_session c.session.view_is (executing.grant (untouched g c.args.map.now) c.grant_or_revoke.ensures.memory c.in-Grant.s c.in-Grant.is c.grant_or_revoke.ensures.executes)

pub returns-in-Revoke : goal.returns-in-Revoke
returns-in-Revoke g c = executing.of_session c.session.view_is (executing.by_current (untouched g c.args.map.now) c.grant_or_revoke-in-Revoke.ensures.memory (defining.Revoke c.in-Revoke.s) c.in-Revoke.is (c.grant_or_revoke-in-Revoke.ensures.executes tt))

pub returns-in-DropTable : goal.returns-in-DropTable
returns-in-DropTable g c = record {
  preserved = c.drop_table.ensures.preserved;
  read = c.drop_table.ensures.read;
  executes = executing.executed_of_session (g.M.Map.state c.args.map.now) c.args.catalogue.now c.drop_table.result _ _ _ c.session.view_is
      (executing.drop_table (g.M.Map.state c.args.map.now) c.args.catalogue.now c.session.inside.role c.session.inside.login c.drop_table.result c.in-DropTable.s c.in-DropTable.is c.drop_table.ensures.executes);
}
