use Rattle.std.proofs.Common.{◌+◌, ℕ, List, arith, subst, ◌∷◌, []}
use Rattle.page_nodes.specs.declared.cell.NodeKind.TheVariants.{Inner}
use Rattle.page_nodes.specs.Node.{four_bytes}
use Rattle.page_tree.specs.Puts.{AreStored}
use Rattle.page_tree.proofs.RemovalTrees.{child_becomes, stored, stored_becomes}
use Rattle.page_tree.proofs.Faults.{fails}
use Rattle.page_tree.proofs.Taking.{same_taken, taken_in_all, one_made}
use Rattle.page_tree.specs.Taking.{count_made}
use Rattle.page_tree.proofs.removal.store_rest.Goals as goal

pub returns-then-rest-eq0-clause-stored : goal.returns-then-rest-eq0-clause-stored
returns-then-rest-eq0-clause-stored g c sound d low high cs children parent copied =
    child_becomes (g.P.Pages.state c.args.pages.now) c.args.page d low high c.args.rest.first cs children sound parent (omega (arith, copied.count_is, c.if-rest-eq0.true))

pub returns-clause-stored : goal.returns-clause-stored
returns-clause-stored g c sound d low high cs children parent copied =
    let old = g.P.Pages.state c.args.pages.now in
    let new = g.P.Pages.state c.store_cells.new.pages in
    let separator = c.store_cells.new.scratch.separator.items in
    let s = c.in_ok-made.ensures.stored sound parent.there cs copied in
    let nodes : AreStored Inner (four_bytes c.args.rest.first) cs c.args.page c.in_ok-made.made separator old.array new.array =
    subst (λ (x : List ℕ). AreStored Inner x cs c.args.page c.in_ok-made.made separator old.array new.array) c.to_be_bytes-first.ensures s.1 in
    stored_becomes old new c.args.page d low high c.in_ok-made.made separator children s.0
    (stored old.array new.array c.args.page d low high (four_bytes c.args.rest.first) separator cs children c.in_ok-made.made parent (omega (arith, copied.count_is, c.if-rest-eq0.false)) nodes)

pub returns-then-rest-eq0-clause-takes : goal.returns-then-rest-eq0-clause-takes
returns-then-rest-eq0-clause-takes g c =
    same_taken g.P.Pages c.args.pages.now

pub returns-in_err-made-clause-takes : goal.returns-in_err-made-clause-takes
returns-in_err-made-clause-takes g c =
    fails c.from_residual.result c.in_err-made.field-0.0 _ _ c.from_residual.ensures.1 c.in_err-made.ensures.takes

pub returns-clause-takes : goal.returns-clause-takes
returns-clause-takes g c =
    taken_in_all g.P.Pages c.args.pages.now c.store_cells.new.pages (c.args.page ∷ []) (0 + count_made c.in_ok-made.made) 2 c.in_ok-made.ensures.takes (omega (arith, one_made c.in_ok-made.made))
