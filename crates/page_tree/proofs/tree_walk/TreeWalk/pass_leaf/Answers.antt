use Rattle.std.proofs.Common.{refl, sym, ◌∙◌, arith}
use Rattle.page_tree.proofs.Spans.{leaf_passed}
use Rattle.page_tree.proofs.tree_walk.TreeWalk.pass_leaf.Goals as goal

pub returns : goal.returns
returns c map rising entries ahead =
    let before = c.args.self.now in
    let p = ahead.in_leaf (omega (arith, c.if-self-eq0.false)) in
    let cell = c.in-Some-cell_at.cell in
    leaf_passed map c.args.stop.now before _ entries c.in-Some.last.at cell.key.now cell.payload.now cell.end rising p (c.in-Some.ensures p.cells p.left (omega (arith, p.left.count, c.if-self-eq0.false))) c.in-Some-cell_at.ensures.found
    (sym c.is_within.ensures ∙ c.if-not-is_within.false) refl (c.in_ok-go_behind.ensures refl)
