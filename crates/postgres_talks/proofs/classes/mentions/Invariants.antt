use Rattle.std.proofs.Common.{◌≡◌, length}
use Rattle.postgres_talks.specs.Pieces.{mentions}
use Rattle.postgres_talks.proofs.classes.mentions.Given as goal

abbrev pub invariant-loop-bytes : goal.invariant-loop-bytes
invariant-loop-bytes l = mentions l.name l.bytes ≡ mentions l.name l.initial.bytes

abbrev pub decreases-loop-bytes : goal.decreases-loop-bytes
decreases-loop-bytes l = length l.bytes
