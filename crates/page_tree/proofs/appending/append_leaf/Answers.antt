use Rattle.std.proofs.Common.{ℕ, List, [], ap, refl, subst, take, arith, ◌∙◌}
use Rattle.page_nodes.specs.declared.cell.NodeKind.TheVariants.{Leaf}
use Rattle.page_tree.specs.Appending.{ComesLast}
use Rattle.page_tree.specs.Changed.{Change, edited_in_turn}
use Rattle.page_tree.proofs.Faults.{fails, memory_is}
use Rattle.page_tree.proofs.LeafChanges.{first_is}
use Rattle.page_tree.proofs.RemovalNodes.{copied_slice}
use Rattle.page_tree.proofs.LeavesBehind.{first_entry, in_scratch, leaf_appended}
use Rattle.page_tree.proofs.Taking.{same_taken}
use Rattle.page_tree.proofs.appending.append_leaf.Goals as goal

pub returns-in_err-leaf-clause-changed : goal.returns-in_err-leaf-clause-changed
returns-in_err-leaf-clause-changed g c puts sound used es d low high first rest whole bound under reaches node s =
    fails c.from_residual.result c.in_err-leaf.field-0.0 _ _ c.from_residual.ensures.1
    (memory_is _ c.in_err-leaf.field-0.0 (c.in_err-leaf.ensures.copied [] high first rest whole bound under (c.write_node.ensures [] tt refl refl)))

pub returns-in_err-second-clause-changed : goal.returns-in_err-second-clause-changed
returns-in_err-second-clause-changed g c puts sound used es d low high first rest whole bound under reaches node s =
    let a = c.in_ok-leaf.ensures.copied [] high first rest whole bound under (c.write_node.ensures [] tt refl refl) in
    let new = edited_in_turn (take c.in_ok-leaf.leaf.made c.args.changes.now) [] in
    let h = first_entry new (omega (arith, a.cells.count_is, c.if-count-eq0.false)) in
    let k = in_scratch new h.0 h.1 c.as_slice.result.now c.in_ok-leaf.leaf.count h.2 (copied_slice Leaf new c.copy_changed.new.cells.items c.as_slice.result.now c.in_ok-leaf.leaf.count c.as_slice.ensures.value a.cells) in
    fails c.from_residual-in_err-second.result c.in_err-second.field-0.0 _ _ c.from_residual-in_err-second.ensures.1
    (c.in_err-second.ensures.taken sound h.0 h.1 k.sizes k.spelled (omega (arith, k.count_is)))

pub returns-clause-changed : goal.returns-clause-changed
returns-clause-changed g c puts sound used es d low high first rest whole bound under reaches node s =
    let a = c.in_ok-leaf.ensures.copied [] high first rest whole bound under (c.write_node.ensures [] tt refl refl) in
    let cs = take c.in_ok-leaf.leaf.made c.args.changes.now in
    let new = edited_in_turn cs [] in
    let h = first_entry new (omega (arith, a.cells.count_is, c.if-count-eq0.false)) in
    let k = in_scratch new h.0 h.1 c.as_slice.result.now c.in_ok-leaf.leaf.count h.2 (copied_slice Leaf new c.copy_changed.new.cells.items c.as_slice.result.now c.in_ok-leaf.leaf.count c.as_slice.ensures.value a.cells) in
    let item = c.index-changes-0 in
    let last = subst (λ (key : List ℕ). ComesLast key es) (c.key.ensures ∙ ap (λ (x : Change). x.0) (first_is first item.result rest c.args.changes.now 0 whole item.is refl)) ((c.if-not-ends_before.ensures es node).0 refl) in
    let taken = c.in_ok-second.ensures.taken sound h.0 h.1 k.sizes k.spelled (omega (arith, k.count_is)) in
    (a.within, leaf_appended (g.P.Pages.state c.args.pages.now) (g.P.Pages.state c.write_back.new.pages) d low first.0 high c.args.page c.in_ok-second.second _ es cs h.0 h.1 s last reaches a.within h.2 taken)

pub returns-then-is_empty-clause-takes : goal.returns-then-is_empty-clause-takes
returns-then-is_empty-clause-takes g c = same_taken g.P.Pages c.args.pages.now

pub returns-then-not-ends_before-clause-takes : goal.returns-then-not-ends_before-clause-takes
returns-then-not-ends_before-clause-takes g c = same_taken g.P.Pages c.args.pages.now

pub returns-in_err-leaf-clause-takes : goal.returns-in_err-leaf-clause-takes
returns-in_err-leaf-clause-takes g c =
    fails c.from_residual.result c.in_err-leaf.field-0.0 _ _ c.from_residual.ensures.1 (λ is. absurd (c.in_err-leaf.ensures.faults is))

pub returns-then-made-eq0-clause-takes : goal.returns-then-made-eq0-clause-takes
returns-then-made-eq0-clause-takes g c = same_taken g.P.Pages c.args.pages.now

pub returns-in_err-second-clause-takes : goal.returns-in_err-second-clause-takes
returns-in_err-second-clause-takes g c =
    fails c.from_residual-in_err-second.result c.in_err-second.field-0.0 _ _ c.from_residual-in_err-second.ensures.1 (λ is. c.in_err-second.ensures.takes is)

pub returns-clause-takes : goal.returns-clause-takes
returns-clause-takes g c = c.in_ok-second.ensures.takes
