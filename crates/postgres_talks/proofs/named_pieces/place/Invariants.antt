use Rattle.std.proofs.Common.{◌≡◌, ◌+◌, length}
use Rattle.postgres_talks.specs.Named.{place_of}
use Rattle.postgres_talks.proofs.named_pieces.place.Given as goal

abbrev pub invariant-loop-rest : goal.invariant-loop-rest
invariant-loop-rest l = record {
  found : l.at + place_of l.name l.rest ≡ place_of l.name l.entries;
  behind : l.at + length l.rest ≡ length l.entries;
}

abbrev pub decreases-loop-rest : goal.decreases-loop-rest
decreases-loop-rest l = length l.rest
