use Rattle.descriptions.proofs.Parts.{held_among}
use Rattle.descriptions.proofs.privileges.has_privilege.Goals as goal

pub returns-else-is_superuser : goal.returns-else-is_superuser
returns-else-is_superuser c = λ db described among.
    held_among c.args.catalogue.now c.args.table.now c.args.role.now c.args.roles.now c.requires db described among c.args.privilege c.name.result.now c.descriptors.result.now c.is_superuser.result c.is_given.result
    c.name.ensures c.descriptors.ensures.descriptors c.is_superuser.ensures c.if-is_superuser.false c.is_given.ensures
