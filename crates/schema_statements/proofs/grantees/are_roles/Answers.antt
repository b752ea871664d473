use Rattle.std.proofs.Common.{[], unwrap_or, ap, sym, ◌∙◌}
use Rattle.std.specs.List.{list_all}
use Rattle.abstract_database.specs.Database.{has_role}
use Rattle.abstract_database.specs.Privileges.{role_of}
use Rattle.abstract_database.specs.Checks.{grantee_roles}
use Rattle.stored_database.specs.Definitions.{database_of}
use Rattle.catalogue.proofs.Grantees.{all_together}
use Rattle.schema_statements.proofs.grantees.are_roles.Goals as goal

pub returns-in-Some : goal.returns-in-Some
returns-in-Some c =
    let known = has_role (database_of c.args.catalogue.now) in
    c.knows_grantees.ensures ∙ ap (list_all (λ g. list_all known (role_of g))) c.as_slice.ensures
    ∙ sym (ap (λ o. list_all known (grantee_roles (unwrap_or o []))) c.in-Some.is ∙ all_together known role_of c.in-Some.grantees)
