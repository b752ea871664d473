use Rattle.std.proofs.Common.{◌≡◌, ◌<◌, ℕ, length}
use Rattle.reachability.specs.Found.{IsMarked, IsQueueOf}
use Rattle.reachability.proofs.elements.find_starts.Given as goal

abbrev pub invariant-loop-element : goal.invariant-loop-element
invariant-loop-element l = record {
  count : length l.found.marks.items ≡ length l.starts;
  queue : IsQueueOf l.found.marks.items l.found.queue.items;
  found : (i : ℕ) → i < l.element → IsMarked l.starts i → IsMarked l.found.marks.items i;
  only : (i : ℕ) → IsMarked l.found.marks.items i → IsMarked l.starts i;
}
