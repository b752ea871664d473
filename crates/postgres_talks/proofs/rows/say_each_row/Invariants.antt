use Rattle.std.proofs.Common.{take, map}
use Rattle.postgres_talks.specs.Rows.{row_said}
use Rattle.postgres_talks.specs.Sayings.{Puts}
use Rattle.postgres_talks.proofs.rows.say_each_row.Given as goal

abbrev pub invariant-loop-row : goal.invariant-loop-row
invariant-loop-row l = Puts (map (row_said l.formats) (take l.row-index l.rows)) l.fn.said l.said
