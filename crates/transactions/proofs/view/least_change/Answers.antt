use Rattle.std.proofs.Common.{take, ◌∷◌, []}
use Rattle.std.specs.Option.{option_copied}
use Rattle.transactions.proofs.Least.{one_more}
use Rattle.transactions.proofs.view.least_change.Goals as goal

pub loop-list-preserved : goal.loop-list-preserved
loop-list-preserved c =
    one_more c.args.from.now (option_copied c.lesser-least.result) c.args.lists.now c.loop-list.list-index c.list-item.result c.loop-list-test.true c.list-item.is
    (c.lesser-least.ensures c.args.from.now (take c.loop-list.list-index c.args.lists.now) (c.list-item.result ∷ []) c.loop-list.invariant c.first_change.ensures)
