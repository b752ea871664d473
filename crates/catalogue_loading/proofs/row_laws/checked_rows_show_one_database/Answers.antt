use Rattle.catalogue_loading.proofs.Checked.{stands_for_one}
use Rattle.catalogue_loading.proofs.row_laws.checked_rows_show_one_database.Goals as goal

pub returns : goal.returns
returns c = stands_for_one c.one_database.ensures
