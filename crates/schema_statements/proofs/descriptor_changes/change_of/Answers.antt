use Rattle.std.proofs.Common.{◌≡◌, ◌∙◌, List, sym, ap, subst}
use Rattle.sql_ast.specs.declared.privilege.Descriptor.{Descriptor}
use Rattle.abstract_database.specs.Lists.{TheName}
use Rattle.abstract_database.specs.Whole.{Each}
use Rattle.catalogue.specs.Descriptors.{DescriptorsChanged, IsForTable, descriptors_after}
use Rattle.catalogue_changes.specs.DescriptorChanges.{IsChangeOf}
use Rattle.schema_statements.specs.DescriptorChanges.{with_those, without_those}
use Rattle.schema_statements.proofs.descriptor_changes.change_of.Goals as goal

pub new-requires : goal.new-requires
new-requires c =
    let named : c.in_ok-name.name ≡ c.args.table.now.definition.name = c.in_ok-name.ensures ∙ c.name.ensures in
    subst (Each (IsForTable c.in_ok-name.name)) (sym c.from_vec-added.ensures)
    (subst (λ (n : TheName). Each (IsForTable n) c.args.taken.added.items) (sym named) c.requires.own)

pub returns-clause-change : goal.returns-clause-change
returns-clause-change c =
    subst (IsChangeOf c.args.table.now) (sym c.new.ensures)
    (record { table = c.in_ok-name.ensures ∙ c.name.ensures; fits = rw (c.from_vec-removed.ensures, c.from_vec-added.ensures) c.requires })

pub returns-clause-after : goal.returns-clause-after
returns-clause-after c =
    let ds = c.args.table.now.descriptors in
    ap (λ (change : DescriptorsChanged). descriptors_after change ds) c.new.ensures
    ∙ ap (λ (l : List Descriptor). with_those l (without_those c.from_vec-removed.result ds)) c.from_vec-added.ensures
    ∙ ap (λ (l : List Descriptor). with_those c.args.taken.added.items (without_those l ds)) c.from_vec-removed.ensures
