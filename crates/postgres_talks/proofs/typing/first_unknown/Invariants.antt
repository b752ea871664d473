use Rattle.std.proofs.Common.{◌≡◌, ◌+◌, length}
use Rattle.postgres_talks.specs.Typing.{first_unknown}
use Rattle.postgres_talks.proofs.typing.first_unknown.Given as goal

abbrev pub invariant-loop-rest : goal.invariant-loop-rest
invariant-loop-rest l = record {
  whole : first_unknown l.at l.rest ≡ first_unknown l.index l.types;
  place : l.at + length l.rest ≡ l.index + length l.types;
}

abbrev pub decreases-loop-rest : goal.decreases-loop-rest
decreases-loop-rest l = length l.rest
