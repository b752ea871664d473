use Rattle.schema_statements.proofs.NewTableParts.{new_parts}
use Rattle.schema_statements.proofs.new_table.new_table.Goals as goal

pub new-requires-2 : goal.new-requires-2
new-requires-2 c = new_parts _ c.args.name.now c.args.owner.now c.in_ok-try_copy.ensures c.in_ok-owner_descriptors.ensures c.new.ensures
