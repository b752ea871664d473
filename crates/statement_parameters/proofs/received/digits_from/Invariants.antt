use Rattle.std.proofs.Common.{◌≡◌, ◌≤◌, ◌+◌, ◌^◌, length}
use Rattle.statement_parameters.specs.Received.{digits_from}
use Rattle.statement_parameters.proofs.received.digits_from.Given as goal

abbrev pub invariant-loop-rest : goal.invariant-loop-rest
invariant-loop-rest l = record {
  whole : digits_from l.number l.rest ≡ digits_from 0 l.bytes;
  small : l.number ≤ 2 ^ 63 + 1;
}

abbrev pub decreases-loop-rest : goal.decreases-loop-rest
decreases-loop-rest l = length l.rest
