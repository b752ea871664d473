use Rattle.std.proofs.Common.{arith}
use Rattle.std.proofs.lemmas.Bool.{false≢true}
use Rattle.page_nodes.specs.Scratch.{IsCut}
use Rattle.page_nodes.proofs.Halving.{cut_long}
use Rattle.page_nodes.proofs.scratch.cut_in_middle.Goals as goal

pub returns-then-not-fits-2-clause-cut : goal.returns-then-not-fits-2-clause-cut
returns-then-not-fits-2-clause-cut c cs sizes is count short =
    let cut : IsCut c.args.kind cs c.in_ok-cut.cut.at c.in_ok-cut.cut.index = c.in_ok-cut.ensures.cut cs sizes is short in
    false≢true (c.if-not-fits-2.ensures.1 (omega (arith, cut.back_fits, cut_long c.args.kind cs c.in_ok-cut.cut.at c.in_ok-cut.cut.index c.args.cells.now cut is)))
