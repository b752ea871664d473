use Rattle.std.proofs.Common.{◌∙◌, ap}
use Rattle.planner.specs.ResultColumns.{list_columns}
use Rattle.planner.proofs.ResultColumns.{select_described}
use Rattle.planner.proofs.result_columns.describe_plan.Goals as goal

pub returns-in-Ok : goal.returns-in-Ok
returns-in-Ok c =
    let p = c.in-Select.select in
    select_described c.args.plan.now p c.in-Ok.columns c.in-Select.is (c.in-Ok.ensures ∙ ap (λ sources. list_columns sources p.query.list) c.as_slice-sources.ensures)
