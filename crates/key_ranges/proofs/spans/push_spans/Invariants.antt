use Rattle.std.proofs.Common.{◌≡◌, ◌++◌, drop}
use Rattle.key_ranges.proofs.spans.push_spans.Given as goal

-- what is left to be pushed
abbrev pub invariant-loop-other : goal.invariant-loop-other
invariant-loop-other l = l.fn.spans ++ l.others ≡ l.spans ++ drop l.other-index l.others
