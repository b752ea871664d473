use Rattle.std.proofs.Common.{◌∙◌, sym, ap, ◌&&◌, List}
use Rattle.std.specs.List.{list_any}
use Rattle.sql_ast.specs.declared.role.Role.{Role}
use Rattle.abstract_database.specs.Database.{Database, is_role_named}
use Rattle.server.proofs.server.Server.is_superuser.Goals as goal

pub returns : goal.returns
returns g c running w at =
    c.has_superuser.ensures
    ∙ ap (λ (roles : List Role). list_any (λ (role : Role). is_role_named c.args.role.now role && role.attributes.superuser) roles)
    (c.roles.ensures.roles ∙ sym (ap (λ (db : Database). db.roles) (at.works running).1.committed.is))
