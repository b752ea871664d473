use Rattle.catalogue_loading.proofs.Checking.{rows_held, rows_pass}
use Rattle.catalogue_loading.proofs.row_records.rows_of_records.Goals as goal

pub returns-clause-found : goal.returns-clause-found
returns-clause-found c = rows_held

pub returns-clause-only : goal.returns-clause-only
returns-clause-only c = rows_pass
