use Rattle.std.proofs.Common.{◌≡◌, ◌∙◌, ℕ, List, [], ◌∷◌, length, refl, sym, subst, ap, inl, arith}
use Rattle.pages.specs.State.{OnlyReads, Takes}
use Rattle.page_nodes.specs.declared.cell.NodeKind.TheVariants.{Inner}
use Rattle.page_nodes.specs.Map.{Entry}
use Rattle.page_nodes.specs.Node.{four_bytes, cells_bytes, IsKeySize, IsNode}
use Rattle.page_tree.proofs.Faults.{gives_used}
use Rattle.page_tree.proofs.Descent.{numbered_of}
use Rattle.page_tree.proofs.PutSteps.{one_short, root_done, still_used}
use Rattle.page_tree.proofs.Taking.{none_taken, one_taken, grow_takes, err_fails, not_read, not_memory, taken_then}
use Rattle.page_tree.proofs.puts.grow_root.Goals as goal

pub write_node-requires-clause-fits : goal.write_node-requires-clause-fits
write_node-requires-clause-fits g c =
    one_short c.as_slice-key.result.now c.to_be_bytes.result c.set_only_cell.new.cells.items c.as_slice-cells.result.now c.as_slice-cells.ensures.value c.in_ok-set_only_cell.ensures.copied
    (subst (λ (k : List ℕ). IsKeySize k) (sym c.as_slice-key.ensures.value) c.requires) (ap (λ (xs : List ℕ). length xs) c.to_be_bytes.ensures)

pub returns-clause-preserved : goal.returns-clause-preserved
returns-clause-preserved g c =
    g.P.Pages.preserved_joined c.args.pages.now c.new_page.new.self c.write.new.self
    (g.P.Pages.preserved_joined c.args.pages.now c.read.new.self c.new_page.new.self c.in_ok-read.ensures.preserved c.in_ok-first.ensures.preserved) c.write.ensures.preserved

pub returns-clause-grown : goal.returns-clause-grown
returns-clause-grown g c sound there =
    let old = g.P.Pages.state c.args.pages.now in
    let read = g.P.Pages.state c.read.new.self in
    let taken = g.P.Pages.state c.new_page.new.self in
    let separator = c.args.scratch.now.separator.items in
    let look : OnlyReads old read = c.in_ok-read.ensures.only_reads sound in
    let takes : Takes c.in_ok-first.first c.read.new.bytes read taken = c.in_ok-first.ensures.taken look.sound in
    let was = c.in_ok-read.ensures.found sound in
    let used = still_used _ _ _ c.in_ok-first.first c.read.new.bytes look takes there in
    let cs : List Entry = (separator, four_bytes c.args.second) ∷ [] in
    let spelled : c.as_slice-cells.result.now ≡ cells_bytes Inner cs =
    c.as_slice-cells.ensures.value ∙ (c.in_ok-set_only_cell.ensures.copied ∙ pair_is c.as_slice-key.result.now separator c.to_be_bytes.result (four_bytes c.args.second) c.as_slice-key.ensures.value c.to_be_bytes.ensures) in
    let node : IsNode Inner (four_bytes c.in_ok-first.first) cs c.write_node.new.page =
    subst (λ (x : List ℕ). IsNode Inner x cs c.write_node.new.page) c.to_be_bytes-2.ensures (c.write_node.ensures cs (c.requires, refl, tt) spelled refl) in
    gives_used g.P.Pages c.args.pages.now c.new_page.new.self c.write.new.self c.write.result (taken.array 0) _ _
    (g.P.Pages.preserved_joined c.args.pages.now c.read.new.self c.new_page.new.self c.in_ok-read.ensures.preserved c.in_ok-first.ensures.preserved)
    used (c.write.ensures.malformed takes.writes.sound) (c.write.ensures.cause takes.writes.sound)
    (λ w f d s full top only. root_done old read taken (g.P.Pages.state c.write.new.self) (numbered_of g.P.Pages c.args.pages.now sound) f d c.in_ok-first.first c.args.second separator
    c.read.new.bytes c.write_node.new.page s full top only look was takes node w)
    (c.write.ensures.written takes.writes.sound used)
  where
    pair_is : (k key x child : List ℕ) → k ≡ key → x ≡ child → cells_bytes Inner ((k, x) ∷ []) ≡ cells_bytes Inner ((key, child) ∷ [])
    pair_is k key x child a b = rw (a, b) refl

pub returns-in_err-read-clause-takes : goal.returns-in_err-read-clause-takes
returns-in_err-read-clause-takes g c =
    err_fails c.from_residual.result c.in_err-read.field-0.0 _ c.from_residual.ensures.1 (λ is. not_read c.in_err-read.field-0.0 c.in_err-read.ensures.faults is)

pub returns-in_err-first-clause-takes : goal.returns-in_err-first-clause-takes
returns-in_err-first-clause-takes g c =
    err_fails c.from_residual-in_err-first.result c.in_err-first.field-0.0 _ c.from_residual-in_err-first.ensures.1
    (λ is. inl (taken_then g.P.Pages c.args.pages.now c.read.new.self c.new_page.new.self [] [] 0 0 0 (none_taken g.P.Pages c.args.pages.now c.read.new.self 0 c.in_ok-read.ensures.own)
    (none_taken g.P.Pages c.read.new.self c.new_page.new.self 0 (c.in_err-first.ensures.full is)) (omega arith)))

pub returns-in_err-set_only_cell-clause-takes : goal.returns-in_err-set_only_cell-clause-takes
returns-in_err-set_only_cell-clause-takes g c =
    err_fails c.from_residual-in_err-set_only_cell.result c.in_err-set_only_cell.field-0.0 _ c.from_residual-in_err-set_only_cell.ensures.1 (λ is. not_memory c.in_err-set_only_cell.field-0.0 c.in_err-set_only_cell.ensures.fault is)

pub returns-clause-takes : goal.returns-clause-takes
returns-clause-takes g c =
    let first = c.in_ok-first.first in
    grow_takes g.P.Pages c.args.pages.now c.new_page.new.self c.write.new.self first c.write.result
    (taken_then g.P.Pages c.args.pages.now c.read.new.self c.new_page.new.self [] (first ∷ []) 0 0 0 (none_taken g.P.Pages c.args.pages.now c.read.new.self 0 c.in_ok-read.ensures.own)
    (one_taken g.P.Pages c.read.new.self c.new_page.new.self first 0 c.in_ok-first.ensures.own) (omega arith)) c.write.ensures.full

pub returns-in_err-first-clause-preserved : goal.returns-in_err-first-clause-preserved
returns-in_err-first-clause-preserved g c =
    g.P.Pages.preserved_joined c.args.pages.now c.read.new.self c.new_page.new.self c.in_ok-read.ensures.preserved c.in_err-first.ensures.preserved

pub returns-in_err-set_only_cell-clause-preserved : goal.returns-in_err-set_only_cell-clause-preserved
returns-in_err-set_only_cell-clause-preserved g c =
    g.P.Pages.preserved_joined c.args.pages.now c.read.new.self c.new_page.new.self c.in_ok-read.ensures.preserved c.in_ok-first.ensures.preserved
