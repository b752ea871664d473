use Rattle.std.proofs.Common.{take}
use Rattle.std.specs.Option.{option_copied}
use Rattle.transactions.specs.Views.{HasLeast}
use Rattle.transactions.proofs.view.least_change.Given as goal

abbrev pub invariant-loop-list : goal.invariant-loop-list
invariant-loop-list l = HasLeast l.from (option_copied l.least) (take l.list-index l.lists)
