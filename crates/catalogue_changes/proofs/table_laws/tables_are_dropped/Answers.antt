use Rattle.catalogue_changes.proofs.DropTableLemmas.{drop_table_leads}
use Rattle.catalogue_changes.proofs.table_laws.tables_are_dropped.Goals as goal

pub returns : goal.returns
returns c = drop_table_leads
