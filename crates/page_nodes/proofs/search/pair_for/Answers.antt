use Rattle.std.proofs.Common.{◌∷◌, length, refl, sym, ◌∙◌, arith}
use Rattle.page_nodes.specs.declared.cell.NodeKind.TheVariants.{Inner}
use Rattle.page_nodes.specs.Node.{zeros_after}
use Rattle.page_nodes.proofs.Cells.{two_same}
use Rattle.page_nodes.proofs.Scan.{begins, unread, pairs_begin, pairs_end, pairs_on}
use Rattle.page_nodes.proofs.search.pair_for.Goals as goal
use Rattle.page_nodes.proofs.search.pair_for.Goals.{else-loop-i-test, then-loop-i-test+in_ok-next+then-is_less}

pub returns-in_err-right-clause-pair : goal.returns-in_err-right-clause-pair
returns-in_err-right-clause-pair c first cell cells node =
    let b = begins Inner c.args.bytes.now first (cell ∷ cells) node in
    absurd (unread Inner c.args.bytes.now 8 (cell ∷ cells) (zeros_after Inner first (cell ∷ cells)) b.ahead (omega arith) (c.in_err-right.ensures.none refl))

pub loop-i-init : goal.loop-i-init
loop-i-init c =
    let is = c.in_ok-right.ensures.found in
    let view = c.in_ok-right.right in
    record {
      inside = omega (arith, is.inside, c.told-bytes);
      key = is.key_size;
      child = is.payload_size;
      ahead = λ first cell cells node.
          let b = begins Inner c.args.bytes.now first (cell ∷ cells) node in
          let count = two_same c.two_at-count.result (length (cell ∷ cells)) _ _ c.two_at-count.ensures.fits b.small (sym c.two_at-count.ensures.spelled ∙ b.count) in
          pairs_begin c.args.bytes.now c.args.key.now first cell cells c.child_of-left.result view.key.now view.payload.now view.end c.two_at-count.result node (c.child_of-left.ensures ∙ b.first_is) is count;
    }

pub returns-in_err-next-clause-pair : goal.returns-in_err-next-clause-pair
returns-in_err-next-clause-pair c first cell cells node =
    let p = c.loop-i.invariant.ahead first cell cells node in
    absurd (unread Inner c.args.bytes.now c.loop-i.right.end p.rest (zeros_after Inner first (cell ∷ cells)) p.here (omega (arith, p.total, c.loop-i-test.true)) (c.in_err-next.ensures.none refl))

pub loop-i-preserved : goal.loop-i-preserved
loop-i-preserved c =
    let is = c.in_ok-next.ensures.found in
    let view = c.in_ok-next.next in
    record {
      inside = omega (arith, is.inside, c.told-bytes);
      key = is.key_size;
      child = is.payload_size;
      ahead = λ first cell cells node.
          (pairs_on c.args.bytes.now c.args.key.now first cell cells (zeros_after Inner first (cell ∷ cells)) c.loop-i.left c.loop-i.right.key.now c.loop-i.right.payload.now c.loop-i.right.end c.loop-i.i _
          view.key.now view.payload.now view.end (c.loop-i.invariant.ahead first cell cells node) c.loop-i-test.true is).goes_on c.if-is_less.ensures _ c.child_of-left-in-loop-i.ensures;
    }

pub returns-clause-pair : goal.returns-clause-pair
returns-clause-pair c first cell cells node =
    let walked = c.loop-i.invariant.ahead first cell cells node in
    elim c.loop-i-test.branch [
      | else-loop-i-test w ↦ pairs_end c.args.bytes.now c.args.key.now first cell cells (zeros_after Inner first (cell ∷ cells)) c.loop-i.left c.loop-i.right.key.now c.loop-i.right.payload.now c.loop-i.right.end c.loop-i.i _ c.child_of.result
          walked w.loop-i-test.false c.child_of.ensures
      | then-loop-i-test+in_ok-next+then-is_less w ↦
          let view = w.in_ok-next.next in
          (pairs_on c.args.bytes.now c.args.key.now first cell cells (zeros_after Inner first (cell ∷ cells)) c.loop-i.left c.loop-i.right.key.now c.loop-i.right.payload.now c.loop-i.right.end c.loop-i.i _
          view.key.now view.payload.now view.end walked w.loop-i-test.true w.in_ok-next.ensures.found).stops w.if-is_less.ensures c.child_of.result c.child_of.ensures
    ]
