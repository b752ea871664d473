use Rattle.std.proofs.Common.{◌∙◌, ap, bytes_eq, Bor}
use Rattle.std.specs.List.{list_any}
use Rattle.abstract_database.specs.Lists.{TheName, has_name}
use Rattle.role_membership.proofs.Names.{has_lent}
use Rattle.role_membership.proofs.role_set.RoleSet.contains.Goals as goal

pub returns : goal.returns
returns c =
    c.contains.ensures
    ∙ ap (λ (name : TheName). list_any (λ (k : Bor TheName). bytes_eq name k.now) c.self.inside.names.keys) c.as_str.ensures.text
    ∙ has_lent c.args.role.now c.self.inside.names.keys
    ∙ ap (has_name c.args.role.now) c.self.view_is
