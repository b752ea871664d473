use Rattle.std.proofs.Common.{rules, ◌≡◌, length, refl, sym, ◌∙◌, arith}
use Rattle.page_nodes.specs.declared.cell.NodeKind.TheVariants.{Inner}
use Rattle.page_nodes.specs.Node.{zeros_after}
use Rattle.page_nodes.proofs.Cells.{two_same}
use Rattle.page_nodes.proofs.Scan.{begins, unread, branches_end, branches_on}
use Rattle.page_nodes.proofs.Starts.{branches_start}
use Rattle.page_nodes.proofs.search.turn_for.Goals as goal

pub loop-i-init : goal.loop-i-init
loop-i-init c = record {
  inside = c.start_for-start.ensures.inside;
  ahead = λ first cells node.
      let b = begins Inner c.args.page.bytes.now first cells node in
      let count = two_same c.two_at-count.result (length cells) _ _ c.two_at-count.ensures.fits b.small (sym c.two_at-count.ensures.spelled ∙ b.count) in
      branches_start c.args.page.bytes.now c.args.key.now first cells (zeros_after Inner first cells) _ _ _ _ (c.start_for-start.ensures.starts first cells node) (c.child_of-child.ensures ∙ b.first_is) count;
}

pub returns-in_err-cell-clause-turn : goal.returns-in_err-cell-clause-turn
returns-in_err-cell-clause-turn c first cells node =
    let b = c.loop-i.invariant.ahead first cells node in
    absurd (unread Inner c.args.page.bytes.now c.loop-i.at b.rest (zeros_after Inner first cells) b.here (omega (arith, b.total, c.loop-i-test.true)) (c.in_err-cell.ensures.none refl))

pub returns-then-is_less-clause-turn : goal.returns-then-is_less-clause-turn
returns-then-is_less-clause-turn c first cells node =
    let view = c.in_ok-cell.cell in
    (branches_on c.args.page.bytes.now c.args.key.now first cells (zeros_after Inner first cells) c.loop-i.child c.loop-i.at c.loop-i.i _ view
    (c.loop-i.invariant.ahead first cells node) c.loop-i-test.true c.in_ok-cell.ensures.found).stops c.if-is_less.ensures

pub loop-i-preserved : goal.loop-i-preserved
loop-i-preserved c =
    let view = c.in_ok-cell.cell in
    record {
      inside = let size : length c.args.page.bytes.now ≡ 4096 = search rules in omega (arith, c.in_ok-cell.ensures.found.inside, size);
      ahead = λ first cells node.
          (branches_on c.args.page.bytes.now c.args.key.now first cells (zeros_after Inner first cells) c.loop-i.child c.loop-i.at c.loop-i.i _ view
          (c.loop-i.invariant.ahead first cells node) c.loop-i-test.true c.in_ok-cell.ensures.found).goes_on c.if-is_less.ensures _ c.child_of-child-in-loop-i.ensures;
    }

pub returns-clause-turn : goal.returns-clause-turn
returns-clause-turn c first cells node =
    branches_end c.args.page.bytes.now c.args.key.now first cells (zeros_after Inner first cells) c.loop-i.child c.loop-i.at c.loop-i.i _ (c.loop-i.invariant.ahead first cells node) c.loop-i-test.false
