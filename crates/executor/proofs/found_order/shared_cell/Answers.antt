use Rattle.std.proofs.Common.{◌∙◌, Some, ap, sym}
use Rattle.executor.proofs.FoundOrder.{begin_alike}
use Rattle.executor.proofs.found_order.shared_cell.Goals as goal

pub returns-in-Equal : goal.returns-in-Equal
returns-in-Equal c =
    begin_alike c.args.kind c.args.start.now c.args.stop.now (record { value = c.in_ok-value.value; start = c.in_ok-value.start; stop = c.in_ok-other.stop }) c.in_ok-other.other c.in_ok-value.ensures.found c.in_ok-other.ensures.found
    (sym c.in_ok-compare.ensures ∙ ap (λ o. Some o) c.in-Equal.is)
