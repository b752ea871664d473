use Rattle.std.proofs.Common.{◌≡◌, length}
use Rattle.reachability.specs.Found.{Finds, IsAmongFirst, IsQueueOf}
use Rattle.reachability.proofs.found.Visited.add_all.Given as goal

abbrev pub invariant-loop-element : goal.invariant-loop-element
invariant-loop-element l = record {
  count : length l.self.marks.items ≡ length l.initial.self.marks.items;
  finds : Finds (IsAmongFirst l.element-index l.elements) l.initial.self.marks.items l.initial.self.queue.items l.self.marks.items l.self.queue.items;
  queue : IsQueueOf l.initial.self.marks.items l.initial.self.queue.items → IsQueueOf l.self.marks.items l.self.queue.items;
}
