use Rattle.page_nodes.specs.Node.{AreZeros}
use Rattle.page_nodes.proofs.page.ends_in_zeros.Given as goal

abbrev pub invariant-loop-at : goal.invariant-loop-at
invariant-loop-at l = AreZeros l.bytes l.initial.at l.at
