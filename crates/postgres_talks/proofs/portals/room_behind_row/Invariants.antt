use Rattle.std.proofs.Common.{◌≡◌, length}
use Rattle.postgres_talks.specs.Portals.{room_behind_row}
use Rattle.postgres_talks.proofs.portals.room_behind_row.Given as goal

abbrev pub invariant-loop-row : goal.invariant-loop-row
invariant-loop-row l = room_behind_row l.room l.row ≡ room_behind_row l.initial.room l.initial.row

abbrev pub decreases-loop-row : goal.decreases-loop-row
decreases-loop-row l = length l.row
