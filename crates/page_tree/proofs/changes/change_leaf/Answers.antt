use Rattle.std.proofs.Common.{[], take, arith, subst}
use Rattle.std.specs.Prelude.{IsSome}
use Rattle.page_nodes.specs.declared.cell.NodeKind.TheVariants.{Leaf}
use Rattle.page_tree.specs.Forest.{no_trees, leaf}
use Rattle.page_tree.specs.Changed.{Change, edited_in_turn}
use Rattle.page_tree.specs.Taking.{most_left}
use Rattle.page_tree.proofs.Faults.{fails, memory_is}
use Rattle.page_tree.proofs.RemovalNodes.{copied_slice}
use Rattle.page_tree.proofs.RemovalSteps.{leaf_emptied, leaf_changed}
use Rattle.page_tree.proofs.Edits.{in_turn_from, in_turn_under, in_turn_rising, within_lower}
use Rattle.page_tree.proofs.Taking.{same_taken, taken_in_all}
use Rattle.page_tree.proofs.LeafJoins.{leaf_becomes_left, no_separator, one_left}
use Rattle.page_tree.proofs.LeavesBehind.{first_same}
use Rattle.page_tree.proofs.changes.change_leaf.Goals as goal

pub returns-in_err-leaf-clause-changed : goal.returns-in_err-leaf-clause-changed
returns-in_err-leaf-clause-changed g c sound used es d low high first rest whole bound under reaches node s =
    fails c.from_residual.result c.in_err-leaf.field-0.0 _ _ c.from_residual.ensures.1 (memory_is _ c.in_err-leaf.field-0.0 (c.in_err-leaf.ensures.copied es high first rest whole bound under node))

pub returns-then-made-eq0-clause-changed : goal.returns-then-made-eq0-clause-changed
returns-then-made-eq0-clause-changed g c sound used es d low high first rest whole bound under reaches node s =
    let a = c.in_ok-leaf.ensures.copied es high first rest whole bound under node in
    let changes = c.args.changes.now in
    c.append_leaf.ensures.changed (λ one others is. subst (λ (x : Change). IsSome x.1) (first_same changes first one rest others whole is) (a.some c.if-made-eq0.true)) sound used es d low high first rest whole bound under reaches node s

pub returns-then-count-eq0-clause-changed : goal.returns-then-count-eq0-clause-changed
returns-then-count-eq0-clause-changed g c sound used es d low high first rest whole bound under reaches node s =
    let a = c.in_ok-leaf.ensures.copied es high first rest whole bound under node in
    (a.within, leaf_emptied (g.P.Pages.state c.args.pages.now) d low high c.args.page es (edited_in_turn (take c.in_ok-leaf.leaf.made c.args.changes.now) es) sound s (omega (arith, a.cells.count_is, c.if-count-eq0.true)))

pub returns-in_err-write_cells-clause-changed : goal.returns-in_err-write_cells-clause-changed
returns-in_err-write_cells-clause-changed g c sound used es d low high first rest whole bound under reaches node s =
    let a = c.in_ok-leaf.ensures.copied es high first rest whole bound under node in
    let new = edited_in_turn (take c.in_ok-leaf.leaf.made c.args.changes.now) es in
    let copied = copied_slice Leaf new c.copy_changed.new.cells.items c.as_slice.result.now c.in_ok-leaf.leaf.count c.as_slice.ensures.value a.cells in
    fails c.from_residual-in_err-write_cells.result c.in_err-write_cells.field-0.0 _ _ c.from_residual-in_err-write_cells.ensures.1 (c.in_err-write_cells.ensures.written sound used new copied)

pub returns-clause-changed : goal.returns-clause-changed
returns-clause-changed g c sound used es d low high first rest whole bound under reaches node s =
    let a = c.in_ok-leaf.ensures.copied es high first rest whole bound under node in
    let cs = take c.in_ok-leaf.leaf.made c.args.changes.now in
    let new = edited_in_turn cs es in
    let copied = copied_slice Leaf new c.copy_changed.new.cells.items c.as_slice.result.now c.in_ok-leaf.leaf.count c.as_slice.ensures.value a.cells in
    let w = c.in_ok-write_cells.ensures.written sound used new copied in (
      a.within,
      leaf_becomes_left c.left_in.result (g.P.Pages.state c.args.pages.now) (g.P.Pages.state c.write_cells.new.pages) (leaf low c.args.page es no_trees) new d low high c.args.page _ c.left_in.ensures s.1
          (leaf_changed (g.P.Pages.state c.args.pages.now) (g.P.Pages.state c.write_cells.new.pages) d low high c.args.page es new w.0 s (omega (arith, a.cells.count_is, c.if-count-eq0.false))
          (in_turn_from low high cs es (within_lower low first.0 high cs reaches a.within) s.2.0) (in_turn_under first.0 high cs es a.within s.2.1) (in_turn_rising cs es s.2.2) w.1),
    )

pub returns-in_err-leaf-clause-takes : goal.returns-in_err-leaf-clause-takes
returns-in_err-leaf-clause-takes g c =
    fails c.from_residual.result c.in_err-leaf.field-0.0 _ _ c.from_residual.ensures.1 (λ is. absurd (c.in_err-leaf.ensures.faults is))

pub returns-then-made-eq0-clause-takes : goal.returns-then-made-eq0-clause-takes
returns-then-made-eq0-clause-takes g c = c.append_leaf.ensures.takes

pub returns-then-count-eq0-clause-takes : goal.returns-then-count-eq0-clause-takes
returns-then-count-eq0-clause-takes g c = same_taken g.P.Pages c.args.pages.now

pub returns-in_err-write_cells-clause-takes : goal.returns-in_err-write_cells-clause-takes
returns-in_err-write_cells-clause-takes g c =
    fails c.from_residual-in_err-write_cells.result c.in_err-write_cells.field-0.0 _ _ c.from_residual-in_err-write_cells.ensures.1 c.in_err-write_cells.ensures.takes

pub returns-clause-takes : goal.returns-clause-takes
returns-clause-takes g c =
    taken_in_all g.P.Pages c.args.pages.now c.write_cells.new.pages [] 1 (most_left 0 c.left_in.result) c.in_ok-write_cells.ensures.takes (omega (arith, one_left c.left_in.result c.left_in.ensures))

pub returns-clause-size : goal.returns-clause-size
returns-clause-size g c = no_separator c.left_in.result _ c.left_in.ensures
