use Rattle.std.proofs.Common.{◌≡◌, ◌≤◌, take}
use Rattle.postgres_talks.specs.Pieces.{character_count}
use Rattle.postgres_talks.proofs.placing.character_count.Given as goal

abbrev pub invariant-loop-byte : goal.invariant-loop-byte
invariant-loop-byte l = (l.count ≡ character_count (take l.byte-index l.bytes)) × (l.count ≤ l.byte-index)
