use Rattle.std.proofs.Common.{Err, [], ap, ◌∙◌, ◌++◌, arith}
use Rattle.pages.specs.declared.array.PageFault.{PageFault}
use Rattle.page_nodes.specs.declared.cell.NodeKind.TheVariants.{Leaf}
use Rattle.page_tree.proofs.Faults.{fails, caused_used, caused_since, gives_used}
use Rattle.page_tree.proofs.Trees.{some_there}
use Rattle.page_tree.proofs.RemovalPages.{some_as}
use Rattle.page_tree.proofs.RemovalNodes.{copied_slice}
use Rattle.page_tree.proofs.LeafJoins.{left_holds, right_holds, left_other, page_left, page_right, joined_leaves}
use Rattle.page_tree.proofs.Taking.{none_taken, taken_then, takes_since, write_takes, not_read}
use Rattle.page_tree.proofs.joining.store_joined.Goals as goal

pub returns-in_err-free_page-clause-stored : goal.returns-in_err-free_page-clause-stored
returns-in_err-free_page-clause-stored g c sound d low high first cs ds children p par spelled some node copied =
    let A = (g.P.Pages.state c.args.pages.now).array in
    let right = right_holds A c.args.page d low high first cs children c.args.leaves p par in
    fails c.from_residual.result c.in_err-free_page.field-0.0 _ _ c.from_residual.ensures.1
    (caused_used _ c.in_err-free_page.field-0.0 (A c.args.leaves.right) (some_there (A c.args.leaves.right) right.0 right.1) (λ bad. c.in_err-free_page.ensures.malformed sound (ap (λ (x : PageFault). Err x) bad)) (c.in_err-free_page.ensures.cause sound))

pub returns-in_err-write_cells-clause-stored : goal.returns-in_err-write_cells-clause-stored
returns-in_err-write_cells-clause-stored g c sound d low high first cs ds children p par spelled some node copied =
    let A = (g.P.Pages.state c.args.pages.now).array in
    let leaves = c.args.leaves in
    let left = left_holds A c.args.page d low high first cs children leaves p par in
    let right = right_holds A c.args.page d low high first cs children leaves p par in
    let freed = c.in_ok-free_page.ensures.freed sound (some_there (A leaves.right) right.0 right.1) in
    let used = some_as A (g.P.Pages.state c.free_page.new.self).array leaves.left (freed.others leaves.left (left_other A c.args.page d low high first cs children leaves p par)) (some_there (A leaves.left) left.0 left.1) in
    fails c.from_residual-in_err-write_cells.result c.in_err-write_cells.field-0.0 _ _ c.from_residual-in_err-write_cells.ensures.1
    (caused_since g.P.Pages c.args.pages.now c.free_page.new.self c.write_cells.new.pages c.in_err-write_cells.field-0.0 c.in_ok-free_page.ensures.preserved
    (c.in_err-write_cells.ensures.written freed.sound used (p.left ++ p.right) (copied_slice Leaf (p.left ++ p.right) c.args.scratch.now.cells.items c.as_slice.result.now c.args.count c.as_slice.ensures.value copied)))

pub returns-clause-preserved : goal.returns-clause-preserved
returns-clause-preserved g c =
    g.P.Pages.preserved_joined c.args.pages.now c.write_cells.new.pages c.write.new.self
    (g.P.Pages.preserved_joined c.args.pages.now c.free_page.new.self c.write_cells.new.pages c.in_ok-free_page.ensures.preserved c.in_ok-write_cells.ensures.preserved) c.write.ensures.preserved

pub returns-clause-stored : goal.returns-clause-stored
returns-clause-stored g c sound d low high first cs ds children p par spelled some node copied =
    let old = g.P.Pages.state c.args.pages.now in
    let one = g.P.Pages.state c.free_page.new.self in
    let two = g.P.Pages.state c.write_cells.new.pages in
    let new = g.P.Pages.state c.write.new.self in
    let A = old.array in
    let page = c.args.page in
    let leaves = c.args.leaves in
    let left = left_holds A page d low high first cs children leaves p par in
    let right = right_holds A page d low high first cs children leaves p par in
    let freed = c.in_ok-free_page.ensures.freed sound (some_there (A leaves.right) right.0 right.1) in
    let used = some_as A one.array leaves.left (freed.others leaves.left (left_other A page d low high first cs children leaves p par)) (some_there (A leaves.left) left.0 left.1) in
    let wrote = c.in_ok-write_cells.ensures.written freed.sound used (p.left ++ p.right) (copied_slice Leaf (p.left ++ p.right) c.args.scratch.now.cells.items c.as_slice.result.now c.args.count c.as_slice.ensures.value copied) in
    let there = some_as A two.array page (wrote.1.others page (page_left A page d low high first cs children leaves p par) ∙ freed.others page (page_right A page d low high first cs children leaves p par)) par.there in
    gives_used g.P.Pages c.args.pages.now c.write_cells.new.pages c.write.new.self c.write.result (two.array page) _ _
    (g.P.Pages.preserved_joined c.args.pages.now c.free_page.new.self c.write_cells.new.pages c.in_ok-free_page.ensures.preserved c.in_ok-write_cells.ensures.preserved)
    there (c.write.ensures.malformed wrote.0) (c.write.ensures.cause wrote.0)
    (λ w. joined_leaves old one two new page d low high first c.args.bytes.now cs ds children leaves p par spelled some node freed wrote.1 w)
    (c.write.ensures.written wrote.0 there)

pub returns-clause-takes : goal.returns-clause-takes
returns-clause-takes g c =
    let wrote = taken_then g.P.Pages c.args.pages.now c.free_page.new.self c.write_cells.new.pages [] [] 0 1 1 (none_taken g.P.Pages c.args.pages.now c.free_page.new.self 0 c.in_ok-free_page.ensures.own) c.in_ok-write_cells.ensures.takes (omega arith) in
    takes_since g.P.Pages c.args.pages.now c.write_cells.new.pages c.write.new.self c.write.result (λ _. 1) (λ _. 2) 1 0 1 wrote (λ x. omega arith) (omega arith)
    (write_takes g.P.Pages c.write_cells.new.pages c.write.new.self c.args.page c.write.result c.write.ensures.own c.write.ensures.full)

pub returns-in_err-write_cells-clause-preserved : goal.returns-in_err-write_cells-clause-preserved
returns-in_err-write_cells-clause-preserved g c =
    g.P.Pages.preserved_joined c.args.pages.now c.free_page.new.self c.write_cells.new.pages c.in_ok-free_page.ensures.preserved c.in_err-write_cells.ensures.preserved

pub returns-in_err-free_page-clause-takes : goal.returns-in_err-free_page-clause-takes
returns-in_err-free_page-clause-takes g c =
    fails c.from_residual.result c.in_err-free_page.field-0.0 _ _ c.from_residual.ensures.1 (λ is. not_read c.in_err-free_page.field-0.0 c.in_err-free_page.ensures.faults is)

pub returns-in_err-write_cells-clause-takes : goal.returns-in_err-write_cells-clause-takes
returns-in_err-write_cells-clause-takes g c =
    let free = none_taken g.P.Pages c.args.pages.now c.free_page.new.self 0 c.in_ok-free_page.ensures.own in
    fails c.from_residual-in_err-write_cells.result c.in_err-write_cells.field-0.0 _ _ c.from_residual-in_err-write_cells.ensures.1
    (λ is. taken_then g.P.Pages c.args.pages.now c.free_page.new.self c.write_cells.new.pages [] [] 0 0 1 free (c.in_err-write_cells.ensures.takes is) (omega arith))
