use Rattle.std.proofs.Common.{◌∙◌, arith}
use Rattle.page_nodes.specs.declared.cell.NodeKind.TheVariants.{Inner}
use Rattle.page_nodes.specs.Map.{with_entry}
use Rattle.page_nodes.specs.Node.{four_bytes}
use Rattle.page_tree.proofs.Faults.{gives_since, fails}
use Rattle.page_tree.proofs.PutSteps.{stored_from, some_now, copied_for, first_for, holder_used}
use Rattle.page_tree.proofs.RemovalJoins.{read_holds}
use Rattle.page_tree.proofs.Taking.{none_taken, put_after, not_read}
use Rattle.page_tree.proofs.puts.put_child.Goals as goal

pub returns-clause-stored : goal.returns-clause-stored
returns-clause-stored g c sound first cs holds =
    let A = (g.P.Pages.state c.args.pages.now).array in
    let B = (g.P.Pages.state c.read.new.self).array in
    let C = (g.P.Pages.state c.store_cells.new.pages).array in
    let separator = c.args.scratch.now.separator.items in
    let grown = with_entry separator (four_bytes c.args.child) cs in
    let only_reads = c.in_ok-read.ensures.only_reads sound in
    let node = read_holds A c.args.page Inner first cs c.read.new.bytes holds (c.in_ok-read.ensures.found sound) in
    let used = some_now A B c.args.page only_reads.same (holder_used A c.args.page Inner first cs holds) in
    let copied = copied_for _ separator _ (four_bytes c.args.child) cs c.copy_with.new.cells.items c.in_ok-edit.edit.count c.as_slice-key.ensures.value c.to_be_bytes.ensures (c.in_ok-edit.ensures.copied first cs node) in
    gives_since g.P.Pages c.args.pages.now c.read.new.self c.store_cells.new.pages c.store_cells.result _ _ c.in_ok-read.ensures.preserved
    (λ made w. (
      w.0,
      stored_from A B C Inner first grown c.args.page made c.store_cells.new.scratch.separator.items only_reads.same
          (first_for B C c.to_be_bytes-first.result first grown c.args.page made c.store_cells.new.scratch.separator.items (c.to_be_bytes-first.ensures ∙ c.first_child.ensures first cs node) w.1),
    ))
    (c.store_cells.ensures.stored only_reads.sound used grown copied)

pub returns-in_err-read-clause-takes : goal.returns-in_err-read-clause-takes
returns-in_err-read-clause-takes g c =
    fails c.from_residual.result c.in_err-read.field-0.0 _ _ c.from_residual.ensures.1 (λ is. not_read c.in_err-read.field-0.0 c.in_err-read.ensures.faults is)

pub returns-in_err-edit-clause-takes : goal.returns-in_err-edit-clause-takes
returns-in_err-edit-clause-takes g c =
    fails c.from_residual-in_err-edit.result c.in_err-edit.field-0.0 _ _ c.from_residual-in_err-edit.ensures.1 (λ is. absurd (c.in_err-edit.ensures.faults is))

pub returns-clause-takes : goal.returns-clause-takes
returns-clause-takes g c =
    put_after g.P.Pages c.args.pages.now c.read.new.self c.store_cells.new.pages c.args.page 0 0 c.store_cells.result
    (none_taken g.P.Pages c.args.pages.now c.read.new.self 0 c.in_ok-read.ensures.own) (omega arith) c.store_cells.ensures.takes

pub returns-clause-preserved : goal.returns-clause-preserved
returns-clause-preserved g c =
    g.P.Pages.preserved_joined c.args.pages.now c.read.new.self c.store_cells.new.pages c.in_ok-read.ensures.preserved c.store_cells.ensures.preserved
