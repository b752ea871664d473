use Rattle.std.proofs.Common.{◌≡◌, ◌++◌, drop}
use Rattle.key_ranges.proofs.boxes.push_bounds.Given as goal

-- what is left to be pushed
abbrev pub invariant-loop-bound : goal.invariant-loop-bound
invariant-loop-bound l = l.fn.bounds.items ++ l.more ≡ l.bounds.items ++ drop l.bound-index l.more
