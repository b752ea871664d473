use Rattle.std.proofs.Common.{◌∙◌, inr, ap, length, rules}
use Rattle.planner.proofs.RowChanges.{columns_refused, one_each, changes_refused, not_allowed, passes}
use Rattle.planner.proofs.row_changes.check_changes.Goals as goal

pub returns-in_err-columns-clause-checks : goal.returns-in_err-columns-clause-checks
returns-in_err-columns-clause-checks c =
    let m = columns_refused c.args.rights.now c.args.statement.now c.args.table.now c.columns.result.now c.columns.ensures c.assignments-assignments.result.now c.assignments-assignments.ensures c.condition-condition.result.now c.condition-condition.ensures
    c.in_err-columns.field-0.0 c.in_err-columns.ensures in
    search rules

pub bind_changes-requires : goal.bind_changes-requires
bind_changes-requires c =
    ap length c.as_slice-set.ensures
    ∙ one_each c.args.rights.now c.args.statement.now c.args.table.now c.columns.result.now c.columns.ensures c.assignments-assignments.result.now c.assignments-assignments.ensures c.condition-condition.result.now c.condition-condition.ensures
    c.in_ok-columns.columns c.in_ok-columns.ensures

pub returns-in_err-bound-clause-checks : goal.returns-in_err-bound-clause-checks
returns-in_err-bound-clause-checks c =
    let m = changes_refused c.args.rights.now c.args.statement.now c.args.table.now c.columns.result.now c.columns.ensures c.assignments-assignments.result.now c.assignments-assignments.ensures c.condition-condition.result.now c.condition-condition.ensures
    c.in_ok-columns.columns c.in_ok-columns.ensures c.as_slice-set.result.now c.as_slice-set.ensures c.in_err-bound.field-0.0 c.in_err-bound.ensures in
    search rules

pub returns-then-not-may_change-clause-checks : goal.returns-then-not-may_change-clause-checks
returns-then-not-may_change-clause-checks c =
    inr (not_allowed c.args.rights.now c.args.statement.now c.args.table.now c.columns.result.now c.columns.ensures c.assignments-assignments.result.now c.assignments-assignments.ensures c.condition-condition.result.now c.condition-condition.ensures
    c.in_ok-columns.columns c.in_ok-columns.ensures c.as_slice-set.result.now c.as_slice-set.ensures c.in_ok-bound.bound c.in_ok-bound.ensures c.as_slice-values.result.now c.as_slice-values.ensures
    c.action.result c.action.ensures c.may_change.result c.may_change.ensures c.if-not-may_change.true)

pub returns-clause-checks : goal.returns-clause-checks
returns-clause-checks c =
    passes c.args.rights.now c.args.statement.now c.args.table.now c.columns.result.now c.columns.ensures c.assignments-assignments.result.now c.assignments-assignments.ensures c.condition-condition.result.now c.condition-condition.ensures
    c.in_ok-columns.columns c.in_ok-columns.ensures c.as_slice-set.result.now c.as_slice-set.ensures c.in_ok-bound.bound c.in_ok-bound.ensures c.as_slice-values.result.now c.as_slice-values.ensures
    c.action.result c.action.ensures c.may_change.result c.may_change.ensures c.changes_read-reads.result c.if-not-may_change.false c.changes_read-reads.ensures

pub returns-clause-sets : goal.returns-clause-sets
returns-clause-sets c =
    one_each c.args.rights.now c.args.statement.now c.args.table.now c.columns.result.now c.columns.ensures c.assignments-assignments.result.now c.assignments-assignments.ensures c.condition-condition.result.now c.condition-condition.ensures
    c.in_ok-columns.columns c.in_ok-columns.ensures ∙ ap length c.assignments-assignments.ensures
