use Rattle.catalogue_loading.proofs.Orphan.{no_orphan}
use Rattle.catalogue_loading.proofs.orphan_records.no_orphan_is_left.Goals as goal

pub returns : goal.returns
returns c = no_orphan
