use Rattle.catalogue_changes.proofs.TableBridgeLemmas.{drop_table_done}
use Rattle.catalogue_changes.proofs.table_bridges.tables_go_by_a_change.Goals as goal

pub returns : goal.returns
returns c = drop_table_done
