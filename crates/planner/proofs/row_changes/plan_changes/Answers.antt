use Rattle.std.proofs.Common.{subst, rules}
use Rattle.planner.specs.NamedTable.{IsNamed, IsMissing, IsGuarded}
use Rattle.planner.specs.Plans.{IsRefusalOf}
use Rattle.planner.specs.RowChanges.{statement_of, table_of, action_of, checked_in, checked_as, changes_from}
use Rattle.planner.proofs.Planning.{handed_on, not_found, refused, planned}
use Rattle.planner.proofs.RowChanges.{changes, begins, is_change}
use Rattle.planner.proofs.row_changes.plan_changes.Goals as goal

pub returns-in_err-named-clause-refusal : goal.returns-in_err-named-clause-refusal
returns-in_err-named-clause-refusal c =
    let d = c.args.catalogue.now in
    let role = c.args.current.now in
    let s = c.args.statement.now in
    let x = c.in_err-named.field-0.0 in
    handed_on c.from_residual.result x (IsRefusalOf d role (statement_of s)) (search rules)
    (not_found d role (statement_of s) (table_of s) (begins s) x (subst (λ name. IsMissing d name x) c.table.ensures c.in_err-named.ensures.missing))

pub returns-in_err-checked-clause-refusal : goal.returns-in_err-checked-clause-refusal
returns-in_err-checked-clause-refusal c =
    let d = c.args.catalogue.now in
    let role = c.args.current.now in
    let s = c.args.statement.now in
    let n = c.in_ok-named.named in
    let x = c.in_err-checked.field-0.0 in
    let named = subst (λ name. IsNamed d role name n) c.table.ensures c.in_ok-named.ensures.found in
    handed_on c.from_residual-in_err-checked.result x (IsRefusalOf d role (statement_of s)) (search rules)
    (refused d role (statement_of s) (table_of s) n named (changes_from n.rights s) (checked_as s) (changes d role n.rights s named.rights) x (λ one. c.in_err-checked.ensures.checks))

pub returns-clause-plan : goal.returns-clause-plan
returns-clause-plan c =
    let d = c.args.catalogue.now in
    let role = c.args.current.now in
    let s = c.args.statement.now in
    let n = c.in_ok-named.named in
    let k = c.in_ok-checked.checked in
    let g = c.in_ok-guarded.guarded in
    let named = subst (λ name. IsNamed d role name n) c.table.ensures c.in_ok-named.ensures.found in
    let guarded = subst (λ a. IsGuarded d role n.table.now a k.reads g) c.action-action.ensures c.in_ok-guarded.ensures in
    is_change d role s _
    (planned d role (statement_of s) (table_of s) n named (changes_from n.rights s) (checked_as s) (changes d role n.rights s named.rights) (action_of s) k.reads g guarded (λ t. checked_in t k) (λ one. c.in_ok-checked.ensures.checks))
