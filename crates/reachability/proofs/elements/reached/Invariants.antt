use Rattle.reachability.specs.Reached.{elements_of}
use Rattle.reachability.proofs.Sweeps.{IsSweptTo}
use Rattle.reachability.proofs.elements.reached.Given as goal

abbrev pub invariant-loop-at : goal.invariant-loop-at
invariant-loop-at l = IsSweptTo (elements_of l.elements) l.at l.found.marks.items l.found.queue.items
