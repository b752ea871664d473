use Rattle.page_tree.proofs.PutNodes.{edit_made}
use Rattle.page_tree.proofs.RemovalNodes.{copied_without}
use Rattle.page_tree.proofs.removal.copy_without.Goals as goal

pub returns-in-Ok-Some-clause-copied : goal.returns-in-Ok-Some-clause-copied
returns-in-Ok-Some-clause-copied c first cs node =
    let e = edit_made c.in-Ok-Some.field-0 c.in-Ok-Some.edit _ c.in-Ok-Some.field-0-is (c.in-Ok-Some.ensures.edited first cs node) in
    copied_without c.args.kind first cs c.args.bytes.now c.args.key.now c.edit_cells.new.scratch.items c.in-Ok-Some.edit.count node e.count_is e.spelled
