use Rattle.std.proofs.Common.{◌≡◌, length}
use Rattle.reachability.specs.Waiting.{Wait}
use Rattle.reachability.proofs.waiting.waiting.Given as goal

abbrev pub invariant-loop-element : goal.invariant-loop-element
invariant-loop-element l = record { count : length l.lists.items ≡ l.keys; wait : Wait l.element l.waits_for l.lists.items }
