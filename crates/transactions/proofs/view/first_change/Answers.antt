use Rattle.std.proofs.Common.{ℕ, List, Option, ◌∷◌, [], subst, sym}
use Rattle.transactions.specs.Views.{HasLeast}
use Rattle.transactions.proofs.Least.{first_least}
use Rattle.transactions.proofs.view.first_change.Goals as goal

pub returns : goal.returns
returns c = subst (λ (found : Option (List ℕ × Option (List ℕ))). HasLeast c.args.from.now found (c.args.list.now ∷ []))
    (sym c.first_from.ensures) (first_least c.args.from.now c.args.list.now c.pieces-in_order.ensures.ordered)
