use Rattle.std.proofs.Common.{◌∙◌}
use Rattle.abstract_database.specs.Database.{is_role_named}
use Rattle.catalogue.proofs.Searching.{is_there}
use Rattle.catalogue.proofs.definitions.Catalogue.has_role.Goals as goal

pub returns : goal.returns
returns c = c.is_some.ensures ∙ is_there (is_role_named c.args.name.now) c.args.self.now.roles _ c.role.ensures
