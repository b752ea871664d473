use Rattle.std.proofs.Common.{List, ℕ, ◌∷◌, ◌∙◌, subst, arith}
use Rattle.page_nodes.specs.declared.cell.NodeKind.TheVariants.{Inner}
use Rattle.page_nodes.specs.Map.{without}
use Rattle.page_nodes.specs.Node.{IsNode}
use Rattle.page_tree.proofs.Faults.{fails}
use Rattle.page_tree.proofs.LeafJoins.{taken_from}
use Rattle.page_tree.proofs.joining.take_cell.Goals as goal

pub returns-in_err-count-clause-taken : goal.returns-in_err-count-clause-taken
returns-in_err-count-clause-taken c first cell cs node =
    fails c.from_residual-in_err-count.result c.in_err-count.field-0.0 _ _ c.from_residual-in_err-count.ensures.1 (c.in_err-count.ensures.copied first (cell ∷ cs) node)

pub returns-clause-taken : goal.returns-clause-taken
returns-clause-taken c first cell cs node =
    let k = c.in_ok-pair.pair.key.now in
    let e = c.in_ok-pair.ensures.pair first cell cs node in
    let s = c.in_ok-count.ensures.copied first (cell ∷ cs) node in
    let written = c.write_node.ensures (without k (cell ∷ cs)) s.sizes (c.as_slice.ensures.value ∙ s.spelled) s.count_is in
    taken_from first cell cs c.args.key.now k c.write_node.new.page c.in_ok-pair.pair.left c.in_ok-pair.pair.right c.beside.result c.beside.ensures.pages e (omega (arith, s.count_is, c.if-count-eq0.false))
    (subst (λ (x : List ℕ). IsNode Inner x (without k (cell ∷ cs)) c.write_node.new.page) (c.to_be_bytes-first.ensures ∙ c.first_child.ensures first (cell ∷ cs) node) written)
