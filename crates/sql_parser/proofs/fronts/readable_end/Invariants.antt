use Rattle.std.proofs.Common.{◌≤◌, ◌-◌}
use Rattle.sql_parser.proofs.fronts.readable_end.Given as goal

abbrev pub invariant-loop-high : goal.invariant-loop-high
invariant-loop-high l = l.low ≤ l.high

abbrev pub decreases-loop-high : goal.decreases-loop-high
decreases-loop-high l = l.high - l.low
