use Rattle.std.proofs.Common.{List, ℕ, ◌∷◌, ap, ◌∙◌, arith}
use Rattle.pages.specs.State.{OnlyReads}
use Rattle.page_nodes.specs.declared.cell.NodeKind.TheVariants.{Inner}
use Rattle.page_nodes.specs.Map.{with_entry}
use Rattle.page_nodes.specs.Node.{four_bytes}
use Rattle.page_tree.proofs.Faults.{gives_since, fails}
use Rattle.page_tree.proofs.RemovalPages.{some_as}
use Rattle.page_tree.proofs.RemovalJoins.{read_holds, with_before, copied_as, stored_read}
use Rattle.page_tree.proofs.Taking.{none_taken, put_two, not_read}
use Rattle.page_tree.proofs.removal.join_before.Goals as goal

pub returns-clause-joined : goal.returns-clause-joined
returns-clause-joined g c sound d low high first cs children parent holds =
    let old = g.P.Pages.state c.args.pages.now in
    let mid = g.P.Pages.state c.read.new.self in
    let new = g.P.Pages.state c.store_cells.new.pages in
    let key = c.args.key.now in
    let only_reads : OnlyReads old mid = c.in_ok-read.ensures.only_reads sound in
    let node = read_holds old.array c.args.page Inner first cs c.read.new.bytes holds (c.in_ok-read.ensures.found sound) in
    let cells_are = ap (λ (b : List ℕ). with_entry key b cs) (c.to_be_bytes-first.ensures ∙ c.first_child.ensures first cs node) ∙ with_before old.array d high (low, four_bytes c.args.child) key first cs children parent.spells in
    let copied = copied_as (with_entry key c.to_be_bytes-first.result cs) ((key, first) ∷ cs) c.copy_with.new.cells.items c.in_ok-edit.edit.count cells_are (c.in_ok-edit.ensures.copied first cs node) in
    gives_since g.P.Pages c.args.pages.now c.read.new.self c.store_cells.new.pages c.store_cells.result _ _ c.in_ok-read.ensures.preserved
    (λ made s. stored_read old mid new c.args.page d low high (four_bytes c.args.child) c.to_be_bytes.result c.store_cells.new.scratch.separator.items ((key, first) ∷ cs) children made only_reads parent (omega arith) c.to_be_bytes.ensures s.0 s.1)
    (c.store_cells.ensures.stored only_reads.sound (some_as old.array mid.array c.args.page (only_reads.same c.args.page) parent.there) ((key, first) ∷ cs) copied)

pub returns-in_err-read-clause-takes : goal.returns-in_err-read-clause-takes
returns-in_err-read-clause-takes g c =
    fails c.from_residual.result c.in_err-read.field-0.0 _ _ c.from_residual.ensures.1 (λ is. not_read c.in_err-read.field-0.0 c.in_err-read.ensures.faults is)

pub returns-in_err-edit-clause-takes : goal.returns-in_err-edit-clause-takes
returns-in_err-edit-clause-takes g c =
    fails c.from_residual-in_err-edit.result c.in_err-edit.field-0.0 _ _ c.from_residual-in_err-edit.ensures.1 (λ is. absurd (c.in_err-edit.ensures.faults is))

pub returns-clause-takes : goal.returns-clause-takes
returns-clause-takes g c =
    put_two g.P.Pages c.args.pages.now c.read.new.self c.store_cells.new.pages c.args.page c.store_cells.result (none_taken g.P.Pages c.args.pages.now c.read.new.self 0 c.in_ok-read.ensures.own) c.store_cells.ensures.takes

pub returns-clause-preserved : goal.returns-clause-preserved
returns-clause-preserved g c =
    g.P.Pages.preserved_joined c.args.pages.now c.read.new.self c.store_cells.new.pages c.in_ok-read.ensures.preserved c.store_cells.ensures.preserved
