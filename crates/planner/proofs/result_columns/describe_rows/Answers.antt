use Rattle.planner.proofs.ResultColumns.{planned, refused}
use Rattle.planner.proofs.result_columns.describe_rows.Goals as goal

pub returns-in-Ok : goal.returns-in-Ok
returns-in-Ok c = planned c.args.catalogue.now c.args.current.now c.args.statement.now c.in-Ok.plan c.describe_plan.result c.in-Ok.ensures.plan c.in-Ok.ensures.means c.describe_plan.ensures

pub returns-in-Err : goal.returns-in-Err
returns-in-Err c = refused c.args.catalogue.now c.args.current.now c.args.statement.now c.in-Err.field-0 c.in-Err.ensures.refusal
