use Rattle.std.proofs.Common.{refl, arith}
use Rattle.page_nodes.specs.declared.cell.NodeKind.TheVariants.{Leaf}
use Rattle.page_nodes.proofs.Scan.{unread}
use Rattle.page_tree.proofs.Spans.{first_up_to, last_up_to, next_up_to}
use Rattle.page_tree.proofs.tree_walk.last_cell.Goals as goal

pub loop-passed-init : goal.loop-passed-init
loop-passed-init c = record { inside = c.args.cursor.now.leaf.within; here = λ cells left some. first_up_to cells c.args.cursor.now left some }

pub returns-in_default : goal.returns-in_default
returns-in_default c cells left some =
    let up = c.loop-passed.invariant.here cells left some in
    absurd (unread Leaf c.args.cursor.now.leaf.page c.loop-passed.at up.rest up.after up.here up.some (c.in_default.ensures.none refl))

pub loop-passed-preserved : goal.loop-passed-preserved
loop-passed-preserved c = record {
  inside = omega (arith, c.in-Some.ensures.found.inside);
  here = λ cells left some.
      next_up_to cells c.loop-passed.at c.loop-passed.passed c.args.cursor.now c.in-Some.cell.key.now c.in-Some.cell.payload.now c.in-Some.cell.end (c.loop-passed.invariant.here cells left some)
      (omega (arith, left.count, c.loop-passed-test.true)) c.in-Some.ensures.found;
}

pub returns : goal.returns
returns c cells left some =
    last_up_to cells c.loop-passed.at c.loop-passed.passed c.args.cursor.now (c.loop-passed.invariant.here cells left some) (omega (arith, left.count, c.loop-passed-test.false))
