use Rattle.std.proofs.Common.{◌∙◌, ℕ, List, ◌∷◌, sym, subst, arith}
use Rattle.page_nodes.specs.Node.{IsNode}
use Rattle.page_tree.specs.Puts.{first_of_second, cells_of_second}
use Rattle.page_tree.proofs.PutNodes.{second_leaf, second_inner, first_cell, FirstCell, taken_page, suffix_is}
use Rattle.page_tree.proofs.puts.write_back.Goals.{in-Leaf, in-Inner}
use Rattle.page_tree.proofs.Taking.{new_page_takes}
use Rattle.page_tree.proofs.puts.write_back.Goals as goal

pub returns-clause-taken : goal.returns-clause-taken
returns-clause-taken g c sound e es sizes spelled count =
    let kind = c.args.kind in
    let h : FirstCell kind c.args.cells.now e es c.in-Some.cell.key.now c.in-Some.cell.payload.now c.in-Some.cell.end = first_cell kind c.args.cells.now e es c.in-Some.cell.key.now c.in-Some.cell.payload.now c.in-Some.cell.end sizes spelled c.in-Some.ensures.found in
    let node : IsNode kind (first_of_second kind e) (cells_of_second kind e es) c.match-kind.bytes = elim c.match-kind.branch [
      | in-Leaf w ↦ subst (λ (b : List ℕ). IsNode kind (first_of_second kind e) (cells_of_second kind e es) b) (sym w.bytes-is) (second_leaf kind e es _ w.in-Leaf.is (w.write_node.ensures (e ∷ es) sizes spelled count))
      | in-Inner w ↦ subst (λ (b : List ℕ). IsNode kind (first_of_second kind e) (cells_of_second kind e es) b) (sym w.bytes-is) (second_inner kind e es c.in-Some.cell.payload.now _ w.in-Inner.is h.payload_is (w.write_node-in-Inner.ensures es sizes.2 (suffix_is c.in-Some.cell.end c.args.cells.now ∙ h.after) (omega (arith, count))))
    ] in
    taken_page g.P.Pages c.args.pages.now c.new_page.new.self kind e es c.set_separator.new.separator.items c.match-kind.bytes c.new_page.result (c.in_ok-set_separator.ensures.set ∙ h.key_is) node
    (c.new_page.ensures.taken sound) (c.new_page.ensures.malformed sound) (c.new_page.ensures.cause sound)

pub returns-clause-takes : goal.returns-clause-takes
returns-clause-takes g c =
    new_page_takes g.P.Pages c.args.pages.now c.new_page.new.self c.new_page.result c.new_page.ensures.own c.new_page.ensures.full
