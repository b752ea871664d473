use Rattle.std.proofs.Common.{◌∷◌, refl}
use Rattle.std.proofs.lemmas.Bool.{false≢true}
use Rattle.page_tree.proofs.Faults.{fails}
use Rattle.page_tree.proofs.RemovalNodes.{rest_right, rest_first}
use Rattle.page_tree.proofs.removal.copy_rest.Goals as goal

pub returns-in_err-count-clause-copied : goal.returns-in_err-count-clause-copied
returns-in_err-count-clause-copied c first cell cs node =
    fails c.from_residual-in_err-count.result c.in_err-count.field-0.0 _ _ c.from_residual-in_err-count.ensures.1 (c.in_err-count.ensures.copied first (cell ∷ cs) node)

pub returns-then-is_same_page-clause-copied : goal.returns-then-is_same_page-clause-copied
returns-then-is_same_page-clause-copied c first cell cs node =
    let e = c.in_ok-pair.ensures.pair first cell cs node in
    rest_right first cell cs c.args.key.now c.in_ok-pair.pair.key.now c.args.child c.in_ok-pair.pair.left c.copy_without.new.cells.items c.in_ok-count.count e.0 e.1
    (c.in_ok-count.ensures.copied first (cell ∷ cs) node) c.in_ok-count.ensures.fits c.in_ok-pair.pair.right e.2 (c.if-is_same_page.ensures.same.0 refl)

pub returns-clause-copied : goal.returns-clause-copied
returns-clause-copied c first cell cs node =
    let e = c.in_ok-pair.ensures.pair first cell cs node in
    rest_first first cell cs c.args.key.now c.in_ok-pair.pair.key.now c.args.child c.in_ok-pair.pair.left c.copy_without.new.cells.items c.in_ok-count.count e.0 e.1
    (c.in_ok-count.ensures.copied first (cell ∷ cs) node) c.in_ok-count.ensures.fits c.first_child.result (c.first_child.ensures first (cell ∷ cs) node) (λ e. false≢true (c.if-is_same_page.ensures.same.1 e))
