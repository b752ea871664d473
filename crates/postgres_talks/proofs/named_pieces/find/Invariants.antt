use Rattle.std.proofs.Common.{◌≡◌, length}
use Rattle.postgres_talks.specs.Named.{find}
use Rattle.postgres_talks.proofs.named_pieces.find.Given as goal

abbrev pub invariant-loop-entries : goal.invariant-loop-entries
invariant-loop-entries l = find l.name l.entries ≡ find l.name l.initial.entries

abbrev pub decreases-loop-entries : goal.decreases-loop-entries
decreases-loop-entries l = length l.entries
