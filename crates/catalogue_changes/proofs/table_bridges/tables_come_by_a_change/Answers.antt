use Rattle.catalogue_changes.proofs.NewTableLemmas.{create_table_done, room_for_table}
use Rattle.catalogue_changes.proofs.table_bridges.tables_come_by_a_change.Goals as goal

pub returns-clause-created : goal.returns-clause-created
returns-clause-created c = create_table_done

pub returns-clause-room : goal.returns-clause-room
returns-clause-room c = room_for_table
