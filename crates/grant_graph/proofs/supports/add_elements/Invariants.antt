use Rattle.grant_graph.specs.Supports.{AreFollowed}
use Rattle.grant_graph.proofs.supports.add_elements.Given as goal

abbrev pub invariant-loop-index : goal.invariant-loop-index
invariant-loop-index l = AreFollowed l.on_table l.index l.named l.descriptors l.initial.elements.items l.elements.items
