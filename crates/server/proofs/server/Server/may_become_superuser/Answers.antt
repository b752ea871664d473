use Rattle.std.proofs.Common.{◌≡◌, ◌∙◌, ◌&&◌, find, List, Option, Some, None, Bool, true, false, sym, ap, subst}
use Rattle.std.specs.List.{list_any}
use Rattle.std.specs.Option.{option_copied}
use Rattle.sql_ast.specs.declared.role.Role.{Role}
use Rattle.sql_ast.specs.declared.role.Membership.{Membership}
use Rattle.abstract_database.specs.Lists.{TheName, has_name}
use Rattle.abstract_database.specs.Database.{Database, is_role_named}
use Rattle.abstract_database.specs.Roles.{is_superuser, is_in}
use Rattle.server.proofs.Superusers.{own_name, no_role, is_one, among_reached}
use Rattle.server.proofs.server.Server.may_become_superuser.Goals as goal

pub returns-in_default : goal.returns-in_default
returns-in_default g c runs w at =
    let db = w.standing.machine.committed in
    let login = c.args.login.now in
    let roles : c.roles.result.now ≡ db.roles = c.roles.ensures.roles ∙ sym (ap (λ (x : Database). x.roles) (at.works runs).1.committed.is) in
    no_role db login (sym (c.role_named.ensures ∙ ap (find (is_role_named login)) roles) ∙ ap option_copied c.in_default.is)

pub returns-then-is_superuser : goal.returns-then-is_superuser
returns-then-is_superuser g c runs w at =
    let db = w.standing.machine.committed in
    let login = c.args.login.now in
    let roles : c.roles.result.now ≡ db.roles = c.roles.ensures.roles ∙ sym (ap (λ (x : Database). x.roles) (at.works runs).1.committed.is) in
    is_one db login c.in-Some.role.now (sym (c.role_named.ensures ∙ ap (find (is_role_named login)) roles) ∙ ap option_copied c.in-Some.is) (sym (c.is_superuser.ensures runs w at) ∙ c.if-is_superuser.true)

pub returns : goal.returns
returns g c runs w at =
    let db = w.standing.machine.committed in
    let login = c.args.login.now in
    let role = c.in-Some.role.now in
    let set = c.in_ok-reached.reached in
    let same = (at.works runs).1.committed.is in
    let roles : c.roles.result.now ≡ db.roles = c.roles.ensures.roles ∙ sym (ap (λ (x : Database). x.roles) same) in
    let again : c.roles-2.result.now ≡ db.roles = c.roles-2.ensures.roles ∙ sym (ap (λ (x : Database). x.roles) same) in
    let memberships : c.memberships.result.now ≡ db.memberships = c.memberships.ensures.memberships ∙ sym (ap (λ (x : Database). x.memberships) same) in
    let found : find (is_role_named login) db.roles ≡ Some role = sym (c.role_named.ensures ∙ ap (find (is_role_named login)) roles) ∙ ap option_copied c.in-Some.is in
    among_reached db login role found set c.has_superuser_in.result (sym (c.is_superuser.ensures runs w at) ∙ c.if-is_superuser.false)
    (λ s. c.in_ok-reached.ensures.test s ∙ ap (λ (ms : List Membership). is_in ms role.name s) memberships ∙ ap (λ (n : TheName). is_in db.memberships n s) (own_name login db.roles role found))
    (c.has_superuser_in.ensures ∙ ap (list_any (λ (r : Role). r.attributes.superuser && has_name r.name set)) again)
