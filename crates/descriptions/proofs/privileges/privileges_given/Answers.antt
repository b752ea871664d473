use Rattle.std.proofs.Common.{◌∙◌, filter, ap, sym}
use Rattle.sql_ast.specs.declared.privilege.Descriptor.{Descriptor}
use Rattle.descriptions.specs.Descriptions.{is_one}
use Rattle.descriptions.proofs.Parts.{given}
use Rattle.descriptions.proofs.privileges.privileges_given.Goals as goal

pub returns : goal.returns
returns c = λ db described among.
    c.in_ok-found.ensures
    ∙ ap (filter (λ (e : Descriptor). is_one c.args.roles.now e.grantee)) c.descriptors.ensures.descriptors
    ∙ sym (given c.args.catalogue.now c.args.table.now c.args.role.now c.args.roles.now c.requires db described among)
