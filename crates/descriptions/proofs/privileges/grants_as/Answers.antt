use Rattle.std.specs.Option.{option_map}
use Rattle.grant_graph.specs.Keys.{now_of}
use Rattle.descriptions.proofs.Parts.{grants_among}
use Rattle.descriptions.proofs.privileges.grants_as.Goals as goal

pub returns : goal.returns
returns c = λ db described among.
    grants_among c.args.catalogue.now c.args.table.now c.args.role.now c.args.roles.now c.requires db described among c.args.privilege c.roles.result.now c.memberships.result.now c.descriptors.result.now c.name.result.now c.owner.result.now
    (option_map now_of c.acting_grantor_among.result)
    c.roles.ensures.roles c.memberships.ensures.memberships c.descriptors.ensures.descriptors c.name.ensures c.owner.ensures c.acting_grantor_among.ensures
