use Rattle.std.proofs.Common.{[]}
use Rattle.page_nodes.specs.Map.{with_entry}
use Rattle.page_tree.proofs.Faults.{fails, memory_is}
use Rattle.page_tree.proofs.PutNodes.{end_fits, stored_after}
use Rattle.page_tree.proofs.puts.put_entry.Goals as goal

pub returns-in_err-edit-clause-stored : goal.returns-in_err-edit-clause-stored
returns-in_err-edit-clause-stored g c sound used es node = fails c.from_residual.result c.in_err-edit.field-0.0 _ _ c.from_residual.ensures.1 (memory_is _ c.in_err-edit.field-0.0 (c.in_err-edit.ensures.copied [] es node))

pub returns-clause-stored : goal.returns-clause-stored
returns-clause-stored g c sound used es node = c.store_cells.ensures.stored sound used (with_entry c.args.key.now c.args.value.now es) (c.in_ok-edit.ensures.copied [] es node)

pub returns-clause-after : goal.returns-clause-after
returns-clause-after g c sound used es node some under =
    let key = c.args.key.now in
    let value = c.args.value.now in
    let last = c.place_in_leaf-place.ensures.1 (c.in_ok-edit.ensures.last [] es node under) in
    let copied = c.in_ok-edit.ensures.copied [] es node in
    let fits = end_fits key value es c.args.scratch.now.page node some under in
    stored_after (g.P.Pages.state c.store_cells.new.pages).array c.args.page key value es c.args.scratch.now.page node some under c.store_cells.result
    (c.store_cells.ensures.end last sound used (with_entry key value es) copied fits)

pub returns-in_err-edit-clause-takes : goal.returns-in_err-edit-clause-takes
returns-in_err-edit-clause-takes g c =
    fails c.from_residual.result c.in_err-edit.field-0.0 _ _ c.from_residual.ensures.1 (λ is. absurd (c.in_err-edit.ensures.faults is))
