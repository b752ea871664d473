use Rattle.grant_graph.specs.Supports.{AreEitherOfFirst}
use Rattle.grant_graph.proofs.supports.either.Given as goal

abbrev pub invariant-loop-index : goal.invariant-loop-index
invariant-loop-index l = AreEitherOfFirst l.index l.own l.whole l.marks.items
