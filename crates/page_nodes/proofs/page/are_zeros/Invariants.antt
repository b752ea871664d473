use Rattle.std.proofs.Common.{◌*◌}
use Rattle.page_nodes.specs.Node.{AreZeros}
use Rattle.page_nodes.proofs.page.are_zeros.Given as goal

abbrev pub invariant-loop-i : goal.invariant-loop-i
invariant-loop-i l = AreZeros l.bytes 0 (8 * l.i)
