use Rattle.std.proofs.Common.{inl, inr, subst}
use Rattle.expressions.specs.Meaning.{UserNames}
use Rattle.row_statements.specs.Costs.{CostsPlanned}
use Rattle.row_statements.specs.Damage.{FindsDamage}
use Rattle.row_statements.specs.Users.{seen_users}
use Rattle.row_statements.proofs.Acting.{in_definitions}
use Rattle.row_statements.proofs.Damaging.{refusal_undamaged}
use Rattle.row_statements.proofs.Planned as planning
use Rattle.row_statements.proofs.Meanings.{plan_refused}
use Rattle.row_statements.proofs.executing.execute.Goals as goal

pub returns-in_err-plan-clause-executed : goal.returns-in_err-plan-clause-executed
returns-in_err-plan-clause-executed g c = λ sound db shown read.
    let users = seen_users db.memberships c.args.current.now c.args.session.now in
    plan_refused (g.M.Map.state c.args.map.now).map c.args.catalogue.now db users c.args.statement.now c.in_err-plan.field-0.0 c.from_residual.result shown c.from_residual.ensures.1
    (c.in_err-plan.ensures.refusal (planning.one_length db users c.args.statement.now read))

pub returns-in_err-plan-clause-damage : goal.returns-in_err-plan-clause-damage
returns-in_err-plan-clause-damage g c = λ sound.
    refusal_undamaged (FindsDamage (g.M.Map.state c.args.map.now).map c.args.catalogue.now (seen_users c.args.catalogue.now.memberships c.args.current.now c.args.session.now) c.args.statement.now)
    c.in_err-plan.field-0.0 c.from_residual.result c.from_residual.ensures.1

pub returns : goal.returns
returns g c =
    let records = (g.M.Map.state c.args.map.now).map in
    let d = c.args.catalogue.now in
    let current = c.args.current.now in
    let planned = c.in_ok-plan.ensures.plan in
    let acts = c.users_of-users.ensures d.memberships (in_definitions d current c.args.statement.now c.in_ok-plan.plan _ planned c.roles_of.ensures) in
    record {
      preserved = c.carry_out.ensures.preserved;
      read = c.carry_out.ensures.read;
      cost = λ sound. inr (c.in_ok-plan.plan, planned, subst (λ (u : UserNames). CostsPlanned (g.M.Map.cost c.args.map.now c.carry_out.new.map) records u c.in_ok-plan.plan) acts (c.carry_out.ensures.cost sound));
      unchanged = λ only. c.carry_out.ensures.unchanged (planning.plans_reads d current c.args.statement.now c.in_ok-plan.plan planned only);
      definitions = c.carry_out.ensures.definitions;
      executed = λ sound. planning.executed records d current c.args.session.now c.args.statement.now c.in_ok-plan.plan _ acts planned c.carry_out.result c.in_ok-plan.ensures.means (c.carry_out.ensures.executed sound);
      damage = λ sound. planning.damaged records d current c.args.session.now c.args.statement.now c.in_ok-plan.plan _ acts planned c.carry_out.result (c.carry_out.ensures.damage sound);
      reads = λ sound. planning.read records d current c.args.session.now c.args.statement.now c.in_ok-plan.plan _ acts planned c.carry_out.result (c.carry_out.ensures.reads sound);
    }

pub returns-in_err-plan-clause-cost : goal.returns-in_err-plan-clause-cost
returns-in_err-plan-clause-cost g c = λ sound. inl (g.M.Map.cost_none c.args.map.now)
