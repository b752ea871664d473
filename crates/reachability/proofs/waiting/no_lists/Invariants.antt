use Rattle.std.proofs.Common.{◌≡◌, ℕ, [], length}
use Rattle.reachability.specs.Waiting.{bucket_at}
use Rattle.reachability.proofs.waiting.no_lists.Given as goal

abbrev pub invariant-loop-key : goal.invariant-loop-key
invariant-loop-key l = record { count : length l.lists.items ≡ l._key; empty : (key : ℕ) → bucket_at l.lists.items key ≡ [] }
