use Rattle.std.proofs.Common.{List, IfOk, sym, subst}
use Rattle.stored_database.specs.Definitions.{TableDefinition}
use Rattle.catalogue.specs.declared.change.SchemaChange.{SchemaChange}
use Rattle.catalogue.specs.Changes.{HasRoom, HasRoomInTable}
use Rattle.catalogue.proofs.staged.reserve.Goals as goal

pub returns-in-SetDescriptors-clause-reservation : goal.returns-in-SetDescriptors-clause-reservation
returns-in-SetDescriptors-clause-reservation c =
    subst (λ (change : SchemaChange). IfOk c.room_in_table.result (HasRoom change c.args.roles.now c.args.tables.now)) (sym c.in-SetDescriptors.is)
    (subst (λ (ts : List TableDefinition). IfOk c.room_in_table.result (HasRoomInTable c.in-SetDescriptors.change ts)) c.as_slice.ensures.value c.room_in_table.ensures.reservation)
