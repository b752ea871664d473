use Rattle.std.proofs.Common.{ℕ, List, subst, sym}
use Rattle.executor.specs.FoundOrder.{ComparesAs}
use Rattle.executor.proofs.FoundOrder.{compares_behind}
use Rattle.executor.proofs.found_order.+order_between.Goals as goal

pub returns-in-Some-shared_cell : goal.returns-in-Some-shared_cell
returns-in-Some-shared_cell t c =
    let columns = c.args.columns.now in
    subst (λ (key : List ℕ). ComparesAs columns c.args.start.now c.args.stop.now key c.order_between.result.now) (sym c.in-Some.ensures.cases.0)
    (compares_behind columns c.in-Some.first.now c.in-Some.others.now c.in-Some-get.column.now (sym c.in-Some-get.ensures) c.args.start.now c.args.stop.now c.order_between.result.now c.in-Some-shared_cell.cell
    c.in-Some-shared_cell.ensures c.order_between.ensures)
