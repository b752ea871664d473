use Rattle.std.proofs.Common.{◌∷◌}
use Rattle.page_nodes.specs.Map.{without}
use Rattle.page_nodes.specs.Search.{pair_from}
use Rattle.page_tree.specs.Forest.{no_trees, inner, append, entries}
use Rattle.page_tree.proofs.Faults.{fails, memory_is, gives_as}
use Rattle.page_tree.proofs.Descent.{numbered_of}
use Rattle.page_tree.proofs.RemovalLost.{lost, becomes_as, under_as}
use Rattle.page_tree.proofs.removal.remove_child.Goals as goal

pub returns-in_err-rest-clause-removed : goal.returns-in_err-rest-clause-removed
returns-in_err-rest-clause-removed g c sound w flat around node =
    fails c.from_residual.result c.in_err-rest.field-0.0 _ _ c.from_residual.ensures.1 (memory_is _ c.in_err-rest.field-0.0 (c.in_err-rest.ensures.copied w.first w.c w.cs node))

pub returns-clause-removed : goal.returns-clause-removed
returns-clause-removed g c sound w flat around node =
    let old = g.P.Pages.state c.args.pages.now in
    let new = g.P.Pages.state c.store_rest.new.pages in
    let page = c.args.page in
    let r = c.in_ok-rest.ensures.copied w.first w.c w.cs node in
    let l = lost old.array page w.depth w.low w.high c.args.key.now c.args.child w.first w.c w.cs w.from c.in_ok-rest.rest.first c.copy_rest.new.cells.items c.in_ok-rest.rest.count r w.before w.after flat around
    (numbered_of g.P.Pages c.args.pages.now sound) c.ranges.child.fits in
    gives_as g.P.Pages c.args.pages.now c.store_rest.new.pages c.store_rest.result _ _
    (λ left b. becomes_as old new (inner w.low page l.children no_trees) (inner w.low page (append w.before w.after) no_trees) (entries l.children) (entries (append w.before w.after)) _
    (under_as w.low page l.children (append w.before w.after) l.meets) (under_as w.low page (append w.before w.after) l.children l.met) l.entries_are b)
    (c.store_rest.ensures.stored sound w.depth w.low w.high (without (pair_from c.args.key.now w.first w.c w.cs).1.0 (w.c ∷ w.cs)) l.children l.parent r.copied)

pub returns-in_err-rest-clause-takes : goal.returns-in_err-rest-clause-takes
returns-in_err-rest-clause-takes g c =
    fails c.from_residual.result c.in_err-rest.field-0.0 _ _ c.from_residual.ensures.1 (λ is. absurd (c.in_err-rest.ensures.faults is))

pub returns-clause-takes : goal.returns-clause-takes
returns-clause-takes g c =
    c.store_rest.ensures.takes
