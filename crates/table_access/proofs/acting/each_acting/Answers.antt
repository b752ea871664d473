use Rattle.std.proofs.Common.{◌≡◌, ◌+◌, ◌++◌, ◌∷◌, [], map, drop, ap, sym, ◌∙◌, subst}
use Rattle.std.proofs.lemmas.List.{map-append}
use Rattle.sql_ast.specs.declared.role.Role.{Role}
use Rattle.abstract_database.specs.Whole.{Each}
use Rattle.descriptions.proofs.Finding.{each_more}
use Rattle.table_access.specs.declared.acting.SettableRoles.{SettableRoles}
use Rattle.table_access.specs.declared.role.RoleAccess.{RoleAccess}
use Rattle.table_access.specs.Accesses.{HasShownRoles}
use Rattle.table_access.proofs.Gathering.{Copies, copies_one, among_item}
use Rattle.table_access.proofs.acting.each_acting.Goals as goal

abbrev its_role : RoleAccess → Role
its_role r = r.role.now

abbrev acting_role : SettableRoles → Role
acting_role r = r.role.now

pub acting_roles-requires-clause-known : goal.acting_roles-requires-clause-known
acting_roles-requires-clause-known c = c.requires.known c.role-item.result (among_item c.args.roles.now c.loop-role.role-index c.role-item.result c.role-item.is c.loop-role-test.true)

pub acting_roles-requires-clause-one : goal.acting_roles-requires-clause-one
acting_roles-requires-clause-one c = λ db described among.
    c.requires.own db described among c.role-item.result (among_item c.args.roles.now c.loop-role.role-index c.role-item.result c.role-item.is c.loop-role-test.true)

pub loop-role-preserved : goal.loop-role-preserved
loop-role-preserved c =
    let all = c.args.catalogue.now.roles in
    let xs = c.args.roles.now in
    let i = c.loop-role.role-index in
    let x = c.role-item.result in
    let old = c.loop-role.found.items in
    let list = c.in_ok-push.ensures.items in
    record {
      roles = subst (Copies its_role all (drop (i + 1) xs)) (sym (ap (map acting_role) list ∙ map-append acting_role old _ ∙ ap (λ r. map acting_role old ++ r ∷ []) c.in_ok-acting_roles.ensures.role))
          (copies_one its_role all xs i x c.role-item.is c.loop-role-test.true (map acting_role old) c.loop-role.invariant.roles);
      others = λ db described among.
          let P = HasShownRoles db c.args.table.now.definition in
          subst (Each P) (sym list) (each_more P old _ (c.loop-role.invariant.others db described among) (c.in_ok-acting_roles.ensures.others db described among));
    }
