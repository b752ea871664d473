use Rattle.std.proofs.Common.{[], refl, arith}
use Rattle.page_nodes.proofs.Scan.{unread, start_small}
use Rattle.page_nodes.proofs.Halving.{cuts_begin, cuts_some, cut_half, cut_full, cuts_on}
use Rattle.page_nodes.proofs.scratch.middle.Goals as goal

pub loop-i-init : goal.loop-i-init
loop-i-init c = record {
  inside = omega arith;
  fits = omega (arith, start_small c.args.kind);
  some = omega arith;
  ahead = λ cs sizes is short. cuts_begin c.args.kind c.args.cells.now cs sizes is;
}

pub returns-then-at-cells-clause-cut : goal.returns-then-at-cells-clause-cut
returns-then-at-cells-clause-cut c cs sizes is short =
    cut_half c.args.kind c.args.cells.now cs c.loop-i.at c.loop-i.i (c.loop-i.invariant.ahead cs sizes is short) c.loop-i.invariant.fits c.requires short c.if-at-cells.true

pub returns-in_err-cell-clause-cut : goal.returns-in_err-cell-clause-cut
returns-in_err-cell-clause-cut c cs sizes is short =
    let w = c.loop-i.invariant.ahead cs sizes is short in
    absurd (unread c.args.kind c.args.cells.now c.loop-i.at w.rest [] w.here (cuts_some c.args.kind c.args.cells.now cs c.loop-i.at c.loop-i.i w c.loop-i.invariant.fits c.requires) (c.in_err-cell.ensures.none refl))

pub returns-then-cell-room-clause-cut : goal.returns-then-cell-room-clause-cut
returns-then-cell-room-clause-cut c cs sizes is short =
    let view = c.in_ok-cell.cell in
    cut_full c.args.kind c.args.cells.now cs c.loop-i.at c.loop-i.i view.key.now view.payload.now view.end (c.loop-i.invariant.ahead cs sizes is short) c.loop-i.invariant.fits c.requires short
    c.if-at-cells.false c.in_ok-cell.ensures.found (omega (arith, c.if-cell-room.true, c.start-room.ensures))

pub loop-i-preserved : goal.loop-i-preserved
loop-i-preserved c =
    let view = c.in_ok-cell.cell in
    let found = c.in_ok-cell.ensures.found in
    record {
      inside = found.inside;
      fits = omega (arith, c.if-cell-room.false, c.start-room.ensures, start_small c.args.kind);
      some = omega (arith, found.order, c.loop-i.invariant.some);
      ahead = λ cs sizes is short. cuts_on c.args.kind c.args.cells.now cs c.loop-i.at c.loop-i.i view.key.now view.payload.now view.end (c.loop-i.invariant.ahead cs sizes is short)
          (omega (arith, c.if-at-cells.false)) c.if-at-cells.false (omega arith) c.requires c.loop-i.invariant.fits found;
    }

pub returns-clause-cut : goal.returns-clause-cut
returns-clause-cut c cs sizes is short = omega (arith, c.loop-i-test.false, c.loop-i.invariant.some, c.loop-i.invariant.fits, c.requires)
