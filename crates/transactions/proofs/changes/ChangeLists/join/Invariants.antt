use Rattle.std.proofs.Common.{◌≡◌, ◌∷◌, ℕ, List, take}
use Rattle.store.specs.Records.{lookup}
use Rattle.transactions.specs.Views.{latest}
use Rattle.transactions.proofs.changes.ChangeLists.join.Given as goal

abbrev pub invariant-loop-list : goal.invariant-loop-list
invariant-loop-list l = (key : List ℕ) → lookup key l.joined ≡ latest key (l.initial.joined ∷ take l.list-index l.later)
