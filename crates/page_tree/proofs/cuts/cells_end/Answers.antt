use Rattle.std.proofs.Common.{refl, arith}
use Rattle.page_nodes.proofs.Scan.{unread, walks_some, walks_on, walks_end}
use Rattle.page_tree.proofs.cuts.cells_end.Goals as goal

pub loop-i-init : goal.loop-i-init
loop-i-init c = record {
  inside = omega arith;
  ahead = λ cells after are count. record { rest = cells; here = are; total = omega (arith, count) };
}

pub returns-in_err-cell-clause-end : goal.returns-in_err-cell-clause-end
returns-in_err-cell-clause-end c cells after are count =
    let w = c.loop-i.invariant.ahead cells after are count in
    absurd (unread c.args.kind c.args.bytes.now c.loop-i.end w.rest after w.here (walks_some c.args.kind c.args.bytes.now c.loop-i.end c.loop-i.i c.args.count after w c.loop-i-test.true) (c.in_err-cell.ensures.none refl))

pub loop-i-preserved : goal.loop-i-preserved
loop-i-preserved c =
    let view = c.in_ok-cell.cell in
    let is = c.in_ok-cell.ensures.found in
    record {
      inside = is.inside;
      ahead = λ cells after are count. walks_on c.args.kind c.args.bytes.now c.loop-i.end c.loop-i.i c.args.count after view.key.now view.payload.now view.end (c.loop-i.invariant.ahead cells after are count) c.loop-i-test.true is;
    }

pub returns-clause-end : goal.returns-clause-end
returns-clause-end c cells after are count = walks_end c.args.kind c.args.bytes.now c.loop-i.end c.loop-i.i c.args.count after (c.loop-i.invariant.ahead cells after are count) c.loop-i-test.false
