use Rattle.std.proofs.Common.{ap, sym, ◌∙◌}
use Rattle.std.specs.Option.{option_copied}
use Rattle.catalogue.proofs.Superusers.{found_is_one, one_is_found}
use Rattle.catalogue.proofs.definitions.Catalogue.is_superuser.Goals as goal

pub returns-in-Some : goal.returns-in-Some
returns-in-Some c = sym (one_is_found c.args.name.now c.args.self.now.roles c.roles-in_order.ensures.order.roles ∙ ap (found_is_one c.args.name.now) (sym c.role.ensures ∙ ap option_copied c.in-Some.is))

pub returns-in-None : goal.returns-in-None
returns-in-None c = sym (one_is_found c.args.name.now c.args.self.now.roles c.roles-in_order.ensures.order.roles ∙ ap (found_is_one c.args.name.now) (sym c.role.ensures ∙ ap option_copied c.in-None.is))
