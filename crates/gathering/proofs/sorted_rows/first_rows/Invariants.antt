use Rattle.std.proofs.Common.{◌≡◌, map}
use Rattle.std.specs.Vec.Iter.{into_iter_items}
use Rattle.gathering.specs.Answers.{no_rows, rows_after}
use Rattle.gathering.specs.Entries.{row_of}
use Rattle.gathering.proofs.sorted_rows.first_rows.Given as goal

abbrev pub invariant-loop-entry : goal.invariant-loop-entry
invariant-loop-entry l =
    rows_after (no_rows l.fn.limit) (map row_of l.fn.rows.items) ≡ rows_after l.answer (map row_of (into_iter_items l.entry-iterator))
