use Rattle.std.proofs.Common.{◌&&◌, ◌∙◌, ap, bytes_eq, Bool}
use Rattle.abstract_database.specs.Lists.{TheName, has_name}
use Rattle.abstract_database.specs.Database.{is_role_named}
use Rattle.sql_ast.specs.declared.role.Role.{Role}
use Rattle.role_membership.proofs.Names.{found_more, found_all, names_symmetric, and_swap}
use Rattle.role_membership.proofs.checks.superusers.Goals as goal

abbrev is_it : TheName → Role → Bool
is_it s r = is_role_named s r && r.attributes.superuser

pub loop-role-init : goal.loop-role-init
loop-role-init c = λ s. ap (has_name s) c.none-names.ensures

pub loop-role-preserved : goal.loop-role-preserved
loop-role-preserved c = λ s.
    let r = c.role-item.result in
    found_more (is_it s) c.args.roles.now c.loop-role.role-index r _ _ _ c.loop-role-test.true c.role-item.is
    (and_swap r.attributes.superuser (bytes_eq s r.name) ∙ ap (λ (b : Bool). b && r.attributes.superuser) (names_symmetric s r.name))
    (c.in_ok-insert_if.ensures.test s) (c.loop-role.invariant s)

pub returns : goal.returns
returns c = λ s. found_all (is_it s) c.args.roles.now c.loop-role.role-index _ c.loop-role-test.false (c.loop-role.invariant s)
