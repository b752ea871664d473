use Rattle.reachability.specs.Keyed.{NumberFirst}
use Rattle.reachability.proofs.numbered.Numbered.add_all.Given as goal

abbrev pub invariant-loop-element : goal.invariant-loop-element
invariant-loop-element g l = NumberFirst g.K.PartialEq.eq l.known.keys l.element-index l.elements l.self.starts.items l.self.waits_for.items l.self.gives.items
