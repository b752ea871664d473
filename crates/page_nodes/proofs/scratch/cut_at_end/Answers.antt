use Rattle.std.proofs.Common.{◌-◌, refl, arith}
use Rattle.std.proofs.lemmas.Bool.{false≢true}
use Rattle.page_nodes.proofs.EndCut.{end_cut, end_place}
use Rattle.page_nodes.proofs.scratch.cut_at_end.Goals as goal

pub returns-in_err-at-clause-found : goal.returns-in_err-at-clause-found
returns-in_err-at-clause-found c cs sizes spelled number fits none =
    let e = end_place c.args.kind c.args.cells.now cs c.args.count sizes spelled number fits in
    c.in_err-at.ensures.end e.front e.after e.here (omega (arith, e.number, c.min_cells-after.ensures))

pub returns-then-not-fits-clause-found : goal.returns-then-not-fits-clause-found
returns-then-not-fits-clause-found c cs sizes spelled number fits none =
    let e = end_place c.args.kind c.args.cells.now cs c.args.count sizes spelled number fits in
    let after = c.in_ok-at.ensures.end e.front e.after e.here (omega (arith, e.number, c.min_cells-after.ensures)) in
    let both = e.fits c.in_ok-at.at after c.in_ok-at.ensures.inside in
    false≢true (c.if-not-fits.ensures.1 both.0)

pub returns-then-not-fits-2-clause-found : goal.returns-then-not-fits-2-clause-found
returns-then-not-fits-2-clause-found c cs sizes spelled number fits none =
    let e = end_place c.args.kind c.args.cells.now cs c.args.count sizes spelled number fits in
    let after = c.in_ok-at.ensures.end e.front e.after e.here (omega (arith, e.number, c.min_cells-after.ensures)) in
    let both = e.fits c.in_ok-at.at after c.in_ok-at.ensures.inside in
    false≢true (c.if-not-fits-2.ensures.1 both.1)

pub returns-clause-cut : goal.returns-clause-cut
returns-clause-cut c cs sizes spelled number =
    end_cut c.args.kind c.args.cells.now cs c.args.count (c.args.count - c.min_cells-after.result) c.in_ok-at.at sizes spelled number
    (omega (arith, c.if-count-after.false, c.min_cells-after.ensures)) (omega (arith, c.if-count-after.false)) c.in_ok-at.ensures.end c.in_ok-at.ensures.inside (c.if-not-fits.ensures.0 refl)
