use Rattle.std.proofs.Common.{refl, arith}
use Rattle.std.proofs.lemmas.Bool.{false≢true}
use Rattle.page_tree.proofs.CutPlaces.{cut_there, cut_here}
use Rattle.page_tree.proofs.cuts.cut_before.Goals as goal

pub returns-in_err-at-clause-found : goal.returns-in_err-at-clause-found
returns-in_err-at-clause-found c cs sizes spelled number place cut none =
    let e = cut_here c.args.kind c.args.cells.now cs c.args.count c.args.index place sizes spelled number cut in
    c.in_err-at.ensures.end e.front e.after e.here e.index_is

pub returns-then-not-fits-clause-found : goal.returns-then-not-fits-clause-found
returns-then-not-fits-clause-found c cs sizes spelled number place cut none =
    let e = cut_here c.args.kind c.args.cells.now cs c.args.count c.args.index place sizes spelled number cut in
    let both = e.fits c.in_ok-at.at (c.in_ok-at.ensures.end e.front e.after e.here e.index_is) c.in_ok-at.ensures.inside in
    false≢true (c.if-not-fits.ensures.1 both.0)

pub returns-then-not-fits-2-clause-found : goal.returns-then-not-fits-2-clause-found
returns-then-not-fits-2-clause-found c cs sizes spelled number place cut none =
    let e = cut_here c.args.kind c.args.cells.now cs c.args.count c.args.index place sizes spelled number cut in
    let both = e.fits c.in_ok-at.at (c.in_ok-at.ensures.end e.front e.after e.here e.index_is) c.in_ok-at.ensures.inside in
    false≢true (c.if-not-fits-2.ensures.1 both.1)

pub returns-clause-cut : goal.returns-clause-cut
returns-clause-cut c cs sizes spelled number =
    cut_there c.args.kind c.args.cells.now cs c.args.count c.args.index c.in_ok-at.at sizes spelled number
    (omega (arith, c.if-index-eq0.false)) (omega (arith, c.if-count-index.false, c.if-count-index-2.false, c.min_cells.ensures)) c.in_ok-at.ensures.end c.in_ok-at.ensures.inside
    (c.if-not-fits.ensures.0 refl) (c.if-not-fits-2.ensures.0 refl)
