use Rattle.std.proofs.Common.{rules}
use Rattle.sql_ast.specs.declared.privilege.Action.TheVariants as action
use Rattle.sql_ast.specs.declared.statement.RowStatement.TheVariants as over_rows
use Rattle.abstract_database.specs.Statements.{inserts as inserts_rows}
use Rattle.planner.specs.Plans.{IsRefusalOf}
use Rattle.planner.specs.Inserted.{checked_in, insert_from}
use Rattle.planner.proofs.Inserting.{inserts, begins}
use Rattle.planner.proofs.Planning.{handed_on, not_found, refused, planned}
use Rattle.planner.proofs.insert.plan_insert.Goals as goal

pub returns-in_err-named-clause-refusal : goal.returns-in_err-named-clause-refusal
returns-in_err-named-clause-refusal c =
    let d = c.args.catalogue.now in
    let role = c.args.current.now in
    let s = c.args.statement.now in
    let x = c.in_err-named.field-0.0 in
    handed_on c.from_residual.result x (IsRefusalOf d role (over_rows.Insert s)) (search rules) (not_found d role (over_rows.Insert s) s.table (begins s) x c.in_err-named.ensures.missing)

pub returns-in_err-checked-clause-refusal : goal.returns-in_err-checked-clause-refusal
returns-in_err-checked-clause-refusal c =
    let d = c.args.catalogue.now in
    let role = c.args.current.now in
    let s = c.args.statement.now in
    let n = c.in_ok-named.named in
    let x = c.in_err-checked.field-0.0 in
    let named = c.in_ok-named.ensures.found in
    handed_on c.from_residual-in_err-checked.result x (IsRefusalOf d role (over_rows.Insert s)) (search rules)
    (refused d role (over_rows.Insert s) s.table n named (insert_from n.rights s) inserts_rows (inserts d role n.rights s named.rights) x c.in_err-checked.ensures)

pub returns-clause-plan : goal.returns-clause-plan
returns-clause-plan c =
    let s = c.args.statement.now in
    let n = c.in_ok-named.named in
    let k = c.in_ok-checked.checked in
    let named = c.in_ok-named.ensures.found in
    planned c.args.catalogue.now c.args.current.now (over_rows.Insert s) s.table n named (insert_from n.rights s) inserts_rows (inserts c.args.catalogue.now c.args.current.now n.rights s named.rights)
    action.Insert _ c.in_ok-guarded.guarded c.in_ok-guarded.ensures (λ t. checked_in t k) c.in_ok-checked.ensures
