use Rattle.gathering.proofs.Sorting.{first_rows_of}
use Rattle.gathering.proofs.sorted_rows.SortedRows.into_rows.Goals as goal

pub returns-in_ok-rows-in-None : goal.returns-in_ok-rows-in-None
returns-in_ok-rows-in-None c =
    first_rows_of c.args.self c.in_ok-rows-in-None.rows.items c.first_rows.result c.in-None.is c.in_ok-rows-in-None.ensures c.first_rows.ensures
