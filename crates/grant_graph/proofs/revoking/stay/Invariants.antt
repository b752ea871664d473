use Rattle.grant_graph.specs.Revoking.{Stay}
use Rattle.grant_graph.proofs.revoking.stay.Given as goal

abbrev pub invariant-loop-index : goal.invariant-loop-index
invariant-loop-index l = Stay l.index l.grant_option_for l.reached l.named l.marks.items
