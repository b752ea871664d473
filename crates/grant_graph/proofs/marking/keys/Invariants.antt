use Rattle.std.proofs.Common.{take}
use Rattle.grant_graph.specs.Marking.{HaveKeysOf}
use Rattle.grant_graph.proofs.marking.keys.Given as goal

abbrev pub invariant-loop-descriptor : goal.invariant-loop-descriptor
invariant-loop-descriptor l = HaveKeysOf (take l.descriptor-index l.descriptors) l.keys.keys
