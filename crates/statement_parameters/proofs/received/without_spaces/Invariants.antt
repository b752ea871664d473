use Rattle.std.proofs.Common.{◌≡◌, length}
use Rattle.statement_parameters.specs.Received.{without_spaces}
use Rattle.statement_parameters.proofs.received.without_spaces.Given as goal

abbrev pub invariant-loop-bytes : goal.invariant-loop-bytes
invariant-loop-bytes l = without_spaces l.bytes ≡ without_spaces l.initial.bytes

abbrev pub decreases-loop-bytes : goal.decreases-loop-bytes
decreases-loop-bytes l = length l.bytes
