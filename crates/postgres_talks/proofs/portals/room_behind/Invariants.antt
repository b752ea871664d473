use Rattle.std.proofs.Common.{◌≡◌, length}
use Rattle.postgres_talks.specs.Portals.{room_behind}
use Rattle.postgres_talks.proofs.portals.room_behind.Given as goal

abbrev pub invariant-loop-portals : goal.invariant-loop-portals
invariant-loop-portals l = room_behind l.room l.portals ≡ room_behind l.initial.room l.initial.portals

abbrev pub decreases-loop-portals : goal.decreases-loop-portals
decreases-loop-portals l = length l.portals
