use Rattle.std.proofs.Common.{◌≡◌, ℕ, List, None, take}
use Rattle.store.specs.Records.{IsOrdered, lookup}
use Rattle.transactions.specs.Views.{or_earlier}
use Rattle.transactions.proofs.changes.add_changes.Given as goal

abbrev pub invariant-loop-change : goal.invariant-loop-change
invariant-loop-change l = record {
  ordered : IsOrdered l.joined;
  added : (key : List ℕ) → lookup key l.joined ≡ or_earlier (lookup key (take l.change-index l.changes)) (lookup key l.fn.joined);
  elsewhere : (key : List ℕ) → lookup key l.changes ≡ None → lookup key l.joined ≡ lookup key l.fn.joined;
}
