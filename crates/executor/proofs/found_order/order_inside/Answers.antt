use Rattle.std.proofs.Common.{ℕ, List, subst}
use Rattle.executor.specs.FoundOrder.{ComparesAs}
use Rattle.executor.proofs.FoundOrder.{order_in_span}
use Rattle.executor.proofs.found_order.order_inside.Goals as goal

pub returns-in-Some-clause-order : goal.returns-in-Some-clause-order
returns-in-Some-clause-order c =
    let table = c.args.table.now in
    let compares = subst (λ (key : List ℕ). ComparesAs table.columns.now c.in-Some.start.now c.in-Some.stop.now key c.order_between.result.now) c.key-key.ensures.key c.order_between.ensures in
    order_in_span table c.args.start.now c.args.stop.now c.in-Some.start.now c.in-Some.stop.now c.order_between.result.now c.requires c.key-key.ensures.layout c.in-Some.ensures compares
