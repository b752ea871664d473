use Rattle.std.proofs.Common.{◌≡◌, take}
use Rattle.postgres_talks.proofs.portals.copied_rows.Given as goal

abbrev pub invariant-loop-row : goal.invariant-loop-row
invariant-loop-row l = l.copy ≡ take l.row-index l.rows
