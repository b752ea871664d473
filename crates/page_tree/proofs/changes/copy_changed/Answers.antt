use Rattle.std.proofs.Common.{◌≡◌, Some, length, take, sym, ◌∙◌}
use Rattle.page_nodes.specs.Node.{cells_bytes}
use Rattle.page_nodes.specs.declared.cell.NodeKind.TheVariants.{Leaf}
use Rattle.page_tree.specs.Changed.{edited_in_turn}
use Rattle.page_tree.proofs.Faults.{fails}
use Rattle.page_tree.proofs.LeafChanges.{cleared_as, some_number, all_changed}
use Rattle.page_tree.proofs.changes.copy_changed.Goals as goal

pub returns-in_default-clause-copied : goal.returns-in_default-clause-copied
returns-in_default-clause-copied c es high first rest whole bound under node = absurd (c.in_default.ensures es node)

pub returns-in_err-merged-clause-copied : goal.returns-in_err-merged-clause-copied
returns-in_err-merged-clause-copied c es high first rest whole bound under node =
    fails c.from_residual.result c.in_err-merged.field-0.0 _ _ c.from_residual.ensures.1
    (c.in_err-merged.ensures.merged es high first rest whole bound under (cleared_as c.args.bytes.now c.clear.new.self.items es c.in-Some.merge c.clear.ensures.items (c.in-Some.ensures es node)))

pub returns-in_default-finished-clause-copied : goal.returns-in_default-finished-clause-copied
returns-in_default-finished-clause-copied c es high first rest whole bound under node =
    let m = c.in_ok-merged.ensures.merged es high first rest whole bound under (cleared_as c.args.bytes.now c.clear.new.self.items es c.in-Some.merge c.clear.ensures.items (c.in-Some.ensures es node)) in
    let new = edited_in_turn (take c.in_ok-merged.merged.made c.args.changes.now) es in
    let f : (c.in_ok-finished.finished ≡ Some (length new)) × (c.finish.new.scratch.items ≡ cells_bytes Leaf new) = c.in_ok-finished.ensures.finished m.last new m.merged in
    absurd (let is = sym c.in_default-finished.is ∙ f.0 in cc)

pub returns-clause-copied : goal.returns-clause-copied
returns-clause-copied c es high first rest whole bound under node =
    let m = c.in_ok-merged.ensures.merged es high first rest whole bound under (cleared_as c.args.bytes.now c.clear.new.self.items es c.in-Some.merge c.clear.ensures.items (c.in-Some.ensures es node)) in
    let new = edited_in_turn (take c.in_ok-merged.merged.made c.args.changes.now) es in
    let f : (c.in_ok-finished.finished ≡ Some (length new)) × (c.finish.new.scratch.items ≡ cells_bytes Leaf new) = c.in_ok-finished.ensures.finished m.last new m.merged in
    all_changed c.args.bytes.now _ _ es high first c.args.changes.now c.in_ok-merged.merged.made _ c.in_ok-merged.merged.merge m (some_number _ _ _ c.in-Some-finished.is f.0) f.1
