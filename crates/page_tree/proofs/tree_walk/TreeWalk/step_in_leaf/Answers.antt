use Rattle.std.proofs.Common.{◌<◌, refl, arith}
use Rattle.page_nodes.specs.declared.cell.NodeKind.TheVariants.{Leaf}
use Rattle.page_nodes.proofs.Scan.{unread}
use Rattle.page_tree.proofs.Stepping.{cell_end, next_found}
use Rattle.page_tree.proofs.tree_walk.TreeWalk.step_in_leaf.Goals as goal

pub returns-in_default : goal.returns-in_default
returns-in_default c map rising entries ahead =
    let before = c.args.self.now in
    let p = ahead.in_leaf (omega (arith, c.if-self-eq0.false)) in
    absurd (unread Leaf before.cursor.leaf.page before.cursor.leaf.at p.cells p.left.after p.left.spelled (omega (arith, p.left.count, c.if-self-eq0.false)) (c.in_default.ensures.none refl))

pub overflow_sub-value_at : goal.overflow_sub-value_at
overflow_sub-value_at c =
    let leaf = c.args.self.now.cursor.leaf in
    let cell = c.in-Some.cell in
    omega (arith, cell_end leaf.page leaf.at cell.key.now cell.payload.now cell.end c.in-Some.ensures.found)

pub overflow_sub-key_at : goal.overflow_sub-key_at
overflow_sub-key_at c =
    let leaf = c.args.self.now.cursor.leaf in
    let cell = c.in-Some.cell in
    omega (arith, cell_end leaf.page leaf.at cell.key.now cell.payload.now cell.end c.in-Some.ensures.found)

pub returns : goal.returns
returns c map rising entries ahead =
    let before = c.args.self.now in
    let cell = c.in-Some.cell in
    let some : 0 < before.cursor.leaf.left = omega (arith, c.if-self-eq0.false) in
    next_found map before _ entries cell.key.now cell.payload.now cell.end _ rising (ahead.in_leaf some) some c.in-Some.ensures.found refl refl refl refl refl refl refl c.in_ok-go_behind-2.ensures
