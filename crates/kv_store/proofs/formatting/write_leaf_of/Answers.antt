use Rattle.kv_store.proofs.Formatted.{cells_are, leaf_fits, leaf_written}
use Rattle.kv_store.proofs.formatting.write_leaf_of.Goals as goal

pub write_node-requires-clause-fits : goal.write_node-requires-clause-fits
write_node-requires-clause-fits c = leaf_fits c.args.first.now c.deref.result.now c.requires.key c.requires.value
    (cells_are c.args.first.now c.deref.result.now c.push_cell.new.out.items c.new-cells.result.items c.key.result.now c.value.result.now c.deref.ensures.value c.in_ok-push_cell.ensures c.new-cells.ensures.items c.key.ensures c.value.ensures)

pub returns : goal.returns
returns c = leaf_written c.args.first.now c.deref.result.now c.write_node.new.page c.requires.key c.requires.value
    (cells_are c.args.first.now c.deref.result.now c.push_cell.new.out.items c.new-cells.result.items c.key.result.now c.value.result.now c.deref.ensures.value c.in_ok-push_cell.ensures c.new-cells.ensures.items c.key.ensures c.value.ensures) c.write_node.ensures
