use Rattle.std.proofs.Common.{◌≡◌, ℕ, List, None, take}
use Rattle.store.specs.Batch.{all_changes}
use Rattle.store.specs.Records.{IsOrdered, lookup}
use Rattle.transactions.specs.Views.{or_earlier}
use Rattle.transactions.proofs.changes.add_list.Given as goal

-- the changes of the pieces so far are added, and no key that the list does not name is changed
abbrev pub invariant-loop-piece : goal.invariant-loop-piece
invariant-loop-piece l = record {
  ordered : IsOrdered l.joined;
  added : (key : List ℕ) → lookup key l.joined ≡ or_earlier (lookup key (all_changes (take l.piece-index l.pieces))) (lookup key l.fn.joined);
  elsewhere : (key : List ℕ) → lookup key l.list ≡ None → lookup key l.joined ≡ lookup key l.fn.joined;
}
