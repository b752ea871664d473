use Rattle.std.proofs.Common.{◌∙◌}
use Rattle.descriptions.proofs.Parts.{concerned, guards_alike}
use Rattle.descriptions.proofs.policies.is_guarded.Goals as goal

pub returns : goal.returns
returns c = λ db described among.
    c.guards.ensures
    ∙ guards_alike c.args.catalogue.now c.args.table.now c.args.role.now c.args.roles.now c.requires db described among c.row_security.result c.is_exempt.result c.forced.result c.contains.result c.owner.result.now
    c.row_security.ensures c.is_exempt.ensures c.forced.ensures c.owner.ensures c.contains.ensures
    ∙ concerned c.args.catalogue.now c.args.table.now c.args.role.now c.args.roles.now c.requires db described among
