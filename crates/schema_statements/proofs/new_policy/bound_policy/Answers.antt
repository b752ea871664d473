use Rattle.schema_statements.proofs.Conditions.{policy_over}
use Rattle.schema_statements.proofs.new_policy.bound_policy.Goals as goal

pub returns-clause-bound : goal.returns-clause-bound
returns-clause-bound c =
    policy_over c.args.table.now.definition c.args.statement.now c.name.result.now c.columns.result.now c.name.ensures c.columns.ensures
    _ _ _ _ c.new-parts.ensures.items c.in_ok-add_condition.ensures c.in_ok-add_condition-2.ensures c.as_slice.ensures.value
    _ _ _ _ _ _ c.into_vec-bound.ensures c.in_ok-bind.ensures c.take_condition-using.ensures c.take_condition-check.ensures
    c.in_ok-policy.policy c.in_ok-policy.ensures
