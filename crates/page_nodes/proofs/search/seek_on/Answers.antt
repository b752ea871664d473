use Rattle.std.proofs.Common.{refl, arith}
use Rattle.page_nodes.proofs.Scan.{unread, seeks_among, seeks_end, seeks_on}
use Rattle.page_nodes.proofs.search.seek_on.Goals as goal

pub loop-i-init : goal.loop-i-init
loop-i-init c = record {
  begins = omega arith;
  inside = c.requires;
  ahead = λ cells after are count. seeks_among c.args.kind c.args.bytes.now c.args.key.now cells after c.args.begin c.args.count are count;
}

pub returns-in_err-cell-clause-sought : goal.returns-in_err-cell-clause-sought
returns-in_err-cell-clause-sought c cells after are count =
    let s = c.loop-i.invariant.ahead cells after are count in
    absurd (unread c.args.kind c.args.bytes.now c.loop-i.at s.rest after s.here (omega (arith, s.total, c.loop-i-test.true)) (c.in_err-cell.ensures.none refl))

pub returns-then-not-is_less-clause-sought : goal.returns-then-not-is_less-clause-sought
returns-then-not-is_less-clause-sought c cells after are count =
    let view = c.in_ok-cell.cell in
    (seeks_on c.args.kind c.args.bytes.now c.args.key.now cells after c.loop-i.at c.loop-i.i _ view.key.now view.payload.now view.end
    (c.loop-i.invariant.ahead cells after are count) c.loop-i-test.true c.in_ok-cell.ensures.found).stops c.if-not-is_less.ensures

pub loop-i-preserved : goal.loop-i-preserved
loop-i-preserved c =
    let view = c.in_ok-cell.cell in
    let is = c.in_ok-cell.ensures.found in
    record {
      begins = omega (arith, is.order, c.loop-i.invariant.begins);
      inside = omega (arith, is.inside);
      ahead = λ cells after are count.
          (seeks_on c.args.kind c.args.bytes.now c.args.key.now cells after c.loop-i.at c.loop-i.i _ view.key.now view.payload.now view.end
          (c.loop-i.invariant.ahead cells after are count) c.loop-i-test.true is).goes_on c.if-not-is_less.ensures;
    }

pub returns-clause-sought : goal.returns-clause-sought
returns-clause-sought c cells after are count =
    seeks_end c.args.kind c.args.bytes.now c.args.key.now cells after c.loop-i.at c.loop-i.i _ (c.loop-i.invariant.ahead cells after are count) c.loop-i-test.false
