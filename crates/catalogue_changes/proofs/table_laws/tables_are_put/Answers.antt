use Rattle.catalogue_changes.proofs.PutTableLemmas.{put_table_leads}
use Rattle.catalogue_changes.proofs.table_laws.tables_are_put.Goals as goal

pub returns : goal.returns
returns c = put_table_leads
