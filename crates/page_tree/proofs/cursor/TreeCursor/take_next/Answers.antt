use Rattle.std.proofs.Common.{refl, arith}
use Rattle.page_nodes.specs.declared.cell.NodeKind.TheVariants.{Leaf}
use Rattle.page_nodes.proofs.Scan.{unread}
use Rattle.page_tree.proofs.Kept.{taken_from}
use Rattle.page_tree.proofs.cursor.TreeCursor.take_next.Goals as goal

pub returns-in_default-clause-taken : goal.returns-in_default-clause-taken
returns-in_default-clause-taken c cells left =
    let leaf = c.args.self.now.leaf in
    absurd (unread Leaf leaf.page leaf.at cells left.after left.spelled (omega (arith, left.count, c.if-self-eq0.false)) (c.in_default.ensures.none refl))

pub returns-clause-taken : goal.returns-clause-taken
returns-clause-taken c cells left =
    taken_from cells c.args.self.now _ c.in-Some.cell.key.now c.in-Some.cell.payload.now c.in-Some.cell.end left (omega (arith, c.if-self-eq0.false)) c.in-Some.ensures.found
    c.in_ok-replace.ensures c.in_ok-replace-2.ensures refl refl refl
