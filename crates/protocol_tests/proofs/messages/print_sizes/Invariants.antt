use Rattle.std.proofs.Common.{◌≤◌, length}
use Rattle.protocol_tests.proofs.messages.print_sizes.Given as goal

abbrev pub invariant-loop-size : goal.invariant-loop-size
invariant-loop-size g l = length l.rest ≤ length l.bytes

abbrev pub decreases-loop-size : goal.decreases-loop-size
decreases-loop-size g l = length l.rest
