use Rattle.catalogue_changes.proofs.TableBridgeLemmas.{alter_table_done}
use Rattle.catalogue_changes.proofs.table_bridges.tables_are_altered_by_a_change.Goals as goal

pub returns : goal.returns
returns c = alter_table_done
