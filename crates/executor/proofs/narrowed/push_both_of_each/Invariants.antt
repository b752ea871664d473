use Rattle.std.proofs.Common.{◌≡◌, ◌++◌, drop}
use Rattle.executor.specs.Narrowed.{both_of_each}
use Rattle.executor.proofs.narrowed.push_both_of_each.Given as goal

abbrev pub invariant-loop-span : goal.invariant-loop-span
invariant-loop-span l = l.fn.parts ++ both_of_each l.start l.stop l.spans ≡ l.parts ++ both_of_each l.start l.stop (drop l.span-index l.spans)
