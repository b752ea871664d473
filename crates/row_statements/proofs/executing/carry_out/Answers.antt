use Rattle.std.proofs.Common.{List, ℕ, length, rules, sym, ap, ◌∙◌, subst}
use Rattle.std.specs.Prelude.{IfOk}
use Rattle.expressions.specs.Rows.{names_of}
use Rattle.key_ranges.specs.BoxCode.{role_names}
use Rattle.key_ranges.proofs.TableRanges.{own_roles}
use Rattle.row_statements.specs.Costs.{CostsPlanned}
use Rattle.row_statements.specs.Damage.{StopsForDamage, MeetsDamage}
use Rattle.row_statements.specs.Executed.{Performs}
use Rattle.row_statements.specs.Ranges.{range_where}
use Rattle.row_statements.specs.Reading.{AnswersBy}
use Rattle.row_statements.proofs.Carrying.{inserts_rows, updates_rows, deletes}
use Rattle.planner.specs.declared.plans.Plan.TheVariants as plan
use Rattle.sql_types.specs.declared.tag.Tag.TheVariants as tag
use Rattle.row_statements.proofs.Costing.{nothing_spent, delete_spent, update_spent, select_spent}
use Rattle.row_statements.proofs.Damaging.{damaged_among, damaged_where, damaged_anyway}
use Rattle.row_statements.proofs.Meanings.{of_kind}
use Rattle.row_statements.proofs.Querying.{selects, answers_planned}
use Rattle.row_statements.proofs.Targeting.{target_where, targets_in}
use Rattle.row_statements.proofs.executing.carry_out.Goals as goal

pub returns-in_ok-targets-in-Select : goal.returns-in_ok-targets-in-Select
returns-in_ok-targets-in-Select g c =
    let records = (g.M.Map.state c.args.map.now).map in
    let users = names_of c.args.users in
    let p = c.in-Select.plan in
    let rows = c.select-rows.result in
    let are = targets_in users (role_names c.args.users) p (own_roles c.args.users) c.as_slice.ensures c.as_slice-conditions.ensures c.as_slice-in-Select.ensures c.as_slice-in-Select-2.ensures
    c.in_ok-tables-in-Select.ensures.safe c.in_ok-tables-in-Select.ensures.exact c.in_ok-targets-in-Select.ensures in
    record {
      preserved = search rules;
      read = search rules;
      cost = λ sound. subst (CostsPlanned (g.M.Map.cost c.args.map.now c.select-rows.new.records) records users) (sym c.in-Select.is)
          (select_spent (g.M.Map.cost c.args.map.now c.select-rows.new.records) records users p _ are (c.select-rows.ensures.cost sound));
      unchanged = search rules;
      definitions = search rules;
      executed = λ sound. of_kind (Performs records users) c.in-Select.is c.answered.ensures
          (selects records users p _ rows (g.met.M.Map.ordered c.args.map.now sound) are (c.select-rows.ensures.answer sound));
      damage = λ sound. of_kind (StopsForDamage records users) c.in-Select.is c.answered.ensures
          (λ d s planned. damaged_among records d users p _ rows s planned are (c.select-rows.ensures.answer sound));
      reads = λ sound. of_kind (λ x r. IfOk r (λ effect. AnswersBy records users x effect.answer)) c.in-Select.is c.answered.ensures
          (answers_planned records users p _ rows are (c.select-rows.ensures.read sound));
    }

pub returns-in-Insert-clause-executed : goal.returns-in-Insert-clause-executed
returns-in-Insert-clause-executed g c = λ sound.
    let records = (g.M.Map.state c.args.map.now).map in
    let users = names_of c.args.users in
    let p = c.in-Insert.plan in
    of_kind (Performs records users) c.in-Insert.is c.counted.ensures
    (inserts_rows records (g.met.M.Map.ordered c.args.map.now sound) users p c.target-target.result (record { columns = c.as_slice-in-Insert.result; rows = c.as_slice-in-Insert-2.result }) c.insert-made.result c.target-target.ensures.target_of c.as_slice-in-Insert.ensures c.as_slice-in-Insert-2.ensures (c.insert-made.ensures.changes sound))

-- of an INSERT nothing is said
pub returns-in-Insert-clause-damage : goal.returns-in-Insert-clause-damage
returns-in-Insert-clause-damage g c = λ sound d s planned.
    let records = (g.M.Map.state c.args.map.now).map in
    let users = names_of c.args.users in
    damaged_anyway c.counted.result (MeetsDamage records users c.args.plan.now)
    (subst (MeetsDamage records users) (sym c.in-Insert.is) (record { roles = role_names c.args.users; are_roles = own_roles c.args.users; met = tt }))

pub returns-in_ok-table-in-Update-clause-executed : goal.returns-in_ok-table-in-Update-clause-executed
returns-in_ok-table-in-Update-clause-executed g c = λ sound.
    let records = (g.M.Map.state c.args.map.now).map in
    let users = names_of c.args.users in
    let p = c.in-Update.plan in
    let table = c.in_ok-table-in-Update in
    let target = c.target-target-in-Update in
    of_kind (Performs records users) c.in-Update.is c.counted-in-Update.ensures
    (updates_rows records (g.met.M.Map.ordered c.args.map.now sound) users p target.result c.as_ref-condition.result (record { columns = c.as_slice-in-Update.result; values = c.as_slice-in-Update-2.result }) c.update-made.result
    (target_where users p.target p.condition c.as_ref-condition.result table.table target.result c.as_ref-condition.ensures.value table.ensures.source table.ensures.safe target.ensures)
    c.as_slice-in-Update.ensures c.as_slice-in-Update-2.ensures (c.update-made.ensures.changes sound))

pub returns-in_ok-table-in-Delete-clause-executed : goal.returns-in_ok-table-in-Delete-clause-executed
returns-in_ok-table-in-Delete-clause-executed g c = λ sound.
    let records = (g.M.Map.state c.args.map.now).map in
    let users = names_of c.args.users in
    let p = c.in-Delete.plan in
    of_kind (Performs records users) c.in-Delete.is c.counted-in-Delete.ensures
    (deletes records (g.met.M.Map.ordered c.args.map.now sound) users p c.target-target-in-Delete.result c.as_ref-condition-in-Delete.result c.delete-made.result
    (target_where users p.target p.condition c.as_ref-condition-in-Delete.result c.in_ok-table-in-Delete.table c.target-target-in-Delete.result c.as_ref-condition-in-Delete.ensures.value c.in_ok-table-in-Delete.ensures.source c.in_ok-table-in-Delete.ensures.safe c.target-target-in-Delete.ensures) (c.delete-made.ensures.changes sound))

pub returns-in_ok-table-in-Update-clause-damage : goal.returns-in_ok-table-in-Update-clause-damage
returns-in_ok-table-in-Update-clause-damage g c = λ sound.
    let records = (g.M.Map.state c.args.map.now).map in
    let users = names_of c.args.users in
    let roles = role_names c.args.users in
    let p = c.in-Update.plan in
    let table = c.in_ok-table-in-Update in
    of_kind (StopsForDamage records users) c.in-Update.is c.counted-in-Update.ensures
    (λ d s planned. damaged_where users roles p.target p.condition table.table c.target-target-in-Update.result records tag.Update c.update-made.result (MeetsDamage records users (plan.Update p))
    (λ met. record { roles = roles; are_roles = own_roles c.args.users; met = met })
    table.ensures.source (table.ensures.exact ∙ ap (range_where users roles p.target) c.as_ref-condition.ensures.value) c.target-target-in-Update.ensures (c.update-made.ensures.damage sound))

pub returns-in_ok-table-in-Delete-clause-damage : goal.returns-in_ok-table-in-Delete-clause-damage
returns-in_ok-table-in-Delete-clause-damage g c = λ sound.
    let records = (g.M.Map.state c.args.map.now).map in
    let users = names_of c.args.users in
    let roles = role_names c.args.users in
    let p = c.in-Delete.plan in
    let table = c.in_ok-table-in-Delete in
    of_kind (StopsForDamage records users) c.in-Delete.is c.counted-in-Delete.ensures
    (λ d s planned. damaged_where users roles p.target p.condition table.table c.target-target-in-Delete.result records tag.Delete c.delete-made.result (MeetsDamage records users (plan.Delete p))
    (λ met. record { roles = roles; are_roles = own_roles c.args.users; met = met })
    table.ensures.source (table.ensures.exact ∙ ap (range_where users roles p.target) c.as_ref-condition-in-Delete.ensures.value) c.target-target-in-Delete.ensures (c.delete-made.ensures.damage sound))

pub returns-in_err-tables-in-Select-clause-cost : goal.returns-in_err-tables-in-Select-clause-cost
returns-in_err-tables-in-Select-clause-cost g c = λ sound.
    nothing_spent (g.M.Map.cost c.args.map.now c.args.map.now) (g.M.Map.state c.args.map.now).map (names_of c.args.users) (role_names c.args.users) (own_roles c.args.users) (g.M.Map.cost_within c.args.map.now c.args.map.now) c.args.plan.now (g.M.Map.cost_none c.args.map.now)

pub returns-in_err-targets-in-Select-clause-cost : goal.returns-in_err-targets-in-Select-clause-cost
returns-in_err-targets-in-Select-clause-cost g c = λ sound.
    nothing_spent (g.M.Map.cost c.args.map.now c.args.map.now) (g.M.Map.state c.args.map.now).map (names_of c.args.users) (role_names c.args.users) (own_roles c.args.users) (g.M.Map.cost_within c.args.map.now c.args.map.now) c.args.plan.now (g.M.Map.cost_none c.args.map.now)

pub returns-in_err-table-in-Update-clause-cost : goal.returns-in_err-table-in-Update-clause-cost
returns-in_err-table-in-Update-clause-cost g c = λ sound.
    nothing_spent (g.M.Map.cost c.args.map.now c.args.map.now) (g.M.Map.state c.args.map.now).map (names_of c.args.users) (role_names c.args.users) (own_roles c.args.users) (g.M.Map.cost_within c.args.map.now c.args.map.now) c.args.plan.now (g.M.Map.cost_none c.args.map.now)

pub returns-in_err-table-in-Delete-clause-cost : goal.returns-in_err-table-in-Delete-clause-cost
returns-in_err-table-in-Delete-clause-cost g c = λ sound.
    nothing_spent (g.M.Map.cost c.args.map.now c.args.map.now) (g.M.Map.state c.args.map.now).map (names_of c.args.users) (role_names c.args.users) (own_roles c.args.users) (g.M.Map.cost_within c.args.map.now c.args.map.now) c.args.plan.now (g.M.Map.cost_none c.args.map.now)

pub returns-in-Insert-clause-cost : goal.returns-in-Insert-clause-cost
returns-in-Insert-clause-cost g c = λ sound.
    let costs = g.M.Map.cost c.args.map.now c.insert-made.new.records in
    subst (CostsPlanned costs (g.M.Map.state c.args.map.now).map (names_of c.args.users)) (sym c.in-Insert.is)
    (record { roles = role_names c.args.users; are_roles = own_roles c.args.users; at_most = subst costs (ap length c.as_slice-in-Insert-2.ensures) c.insert-made.ensures.cost })

pub returns-in_ok-table-in-Update-clause-cost : goal.returns-in_ok-table-in-Update-clause-cost
returns-in_ok-table-in-Update-clause-cost g c = λ sound.
    let records = (g.M.Map.state c.args.map.now).map in
    let users = names_of c.args.users in
    let roles = role_names c.args.users in
    let p = c.in-Update.plan in
    let table = c.in_ok-table-in-Update in
    let target = c.target-target-in-Update in
    let costs = g.M.Map.cost c.args.map.now c.update-made.new.records in
    let where_is = target_where users p.target p.condition c.as_ref-condition.result table.table target.result c.as_ref-condition.ensures.value table.ensures.source table.ensures.safe target.ensures in
    let range = target.ensures.range ∙ table.ensures.exact ∙ ap (range_where users roles p.target) c.as_ref-condition.ensures.value in
    subst (CostsPlanned costs records users) (sym c.in-Update.is)
    (update_spent costs records users roles (own_roles c.args.users) p target.result (record { columns = c.as_slice-in-Update.result; values = c.as_slice-in-Update-2.result }) where_is.is range c.as_slice-in-Update.ensures
    (c.update-made.ensures.cost sound where_is.lossless.of_table))

pub returns-in_ok-table-in-Delete-clause-cost : goal.returns-in_ok-table-in-Delete-clause-cost
returns-in_ok-table-in-Delete-clause-cost g c = λ sound.
    let records = (g.M.Map.state c.args.map.now).map in
    let users = names_of c.args.users in
    let roles = role_names c.args.users in
    let p = c.in-Delete.plan in
    let table = c.in_ok-table-in-Delete in
    let target = c.target-target-in-Delete in
    let costs = g.M.Map.cost c.args.map.now c.delete-made.new.records in
    let where_is = target_where users p.target p.condition c.as_ref-condition-in-Delete.result table.table target.result c.as_ref-condition-in-Delete.ensures.value table.ensures.source table.ensures.safe target.ensures in
    let range = target.ensures.range ∙ table.ensures.exact ∙ ap (range_where users roles p.target) c.as_ref-condition-in-Delete.ensures.value in
    subst (CostsPlanned costs records users) (sym c.in-Delete.is)
    (delete_spent costs records users roles (own_roles c.args.users) p target.result where_is.is range (c.delete-made.ensures.cost sound))
