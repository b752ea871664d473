use Rattle.std.proofs.Common.{◌≡◌, ◌++◌, length, map}
use Rattle.heading_talks.specs.Headings.{heading_row}
use Rattle.heading_talks.proofs.answering.heading_rows.Given as goal

-- the rows that are there and those of the other columns are those of all
abbrev pub invariant-loop-columns : goal.invariant-loop-columns
invariant-loop-columns l = l.rows ++ map heading_row l.columns ≡ map heading_row l.initial.columns

abbrev pub decreases-loop-columns : goal.decreases-loop-columns
decreases-loop-columns l = length l.columns
