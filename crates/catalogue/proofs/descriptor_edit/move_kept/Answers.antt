use Rattle.std.proofs.Common.{rules, ◌++◌, ◌∙◌, List, ap}
use Rattle.std.proofs.lemmas.Fn.{filter_same}
use Rattle.sql_ast.specs.declared.privilege.Descriptor.{Descriptor}
use Rattle.catalogue.proofs.descriptor_edit.move_kept.Goals as goal

pub returns-clause-items : goal.returns-clause-items
returns-clause-items c =
    c.in-Ok.ensures.items ∙ ap (λ (kept : List Descriptor). c.args.out.now.items ++ kept) (filter_same _ _ _ (λ x b f' k. search rules) _ _ c.retain.ensures.filtered)
