use Rattle.std.proofs.Common.{◌≡◌, length}
use Rattle.postgres_talks.specs.Portals.{room_behind_rows}
use Rattle.postgres_talks.proofs.portals.room_behind_rows.Given as goal

abbrev pub invariant-loop-rows : goal.invariant-loop-rows
invariant-loop-rows l = room_behind_rows l.room l.rows ≡ room_behind_rows l.initial.room l.initial.rows

abbrev pub decreases-loop-rows : goal.decreases-loop-rows
decreases-loop-rows l = length l.rows
