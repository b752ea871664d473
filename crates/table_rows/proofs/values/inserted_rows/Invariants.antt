use Rattle.std.proofs.Common.{drop}
use Rattle.expressions.specs.Rows.{names_of}
use Rattle.expressions.proofs.Each.{Left}
use Rattle.abstract_database.specs.Changes.{inserted_row}
use Rattle.table_rows.specs.Targets.{terms_in}
use Rattle.table_rows.proofs.values.inserted_rows.Given as goal

abbrev pub invariant-loop-row : goal.invariant-loop-row
invariant-loop-row l = Left (λ row. inserted_row l.columns (names_of l.users) l.insertion.columns.now (terms_in row)) l.insertion.rows.now (drop l.row-index l.insertion.rows.now) l.rows
