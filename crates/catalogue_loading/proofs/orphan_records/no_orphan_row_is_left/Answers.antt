use Rattle.catalogue_loading.proofs.Orphan.{no_orphan_row, each_row_passes}
use Rattle.catalogue_loading.proofs.orphan_records.no_orphan_row_is_left.Goals as goal

pub returns : goal.returns
returns c = record { found = no_orphan_row; only = each_row_passes }
