use Rattle.std.proofs.Common.{◌∙◌}
use Rattle.page_tree.proofs.PutNodes.{edit_made, copied, none_after}
use Rattle.page_tree.proofs.puts.copy_with.Goals as goal

pub returns-in-Ok-Some-clause-copied : goal.returns-in-Ok-Some-clause-copied
returns-in-Ok-Some-clause-copied c first cs node =
    let e = edit_made c.in-Ok-Some.field-0 c.in-Ok-Some.edit _ c.in-Ok-Some.field-0-is (c.in-Ok-Some.ensures.edited first cs node) in
    copied c.args.kind first cs c.args.bytes.now c.args.key.now c.args.payload.now c.edit_cells.new.scratch.items c.in-Ok-Some.edit.count node c.requires.key c.requires.payload e.count_is e.spelled

pub returns-in-Ok-Some-clause-last : goal.returns-in-Ok-Some-clause-last
returns-in-Ok-Some-clause-last c first cs node under =
    let e = edit_made c.in-Ok-Some.field-0 c.in-Ok-Some.edit _ c.in-Ok-Some.field-0-is (c.in-Ok-Some.ensures.edited first cs node) in
    e.after_is ∙ none_after c.args.key.now cs under
