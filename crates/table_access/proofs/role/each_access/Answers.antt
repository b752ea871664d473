use Rattle.std.proofs.Common.{◌≡◌, ◌+◌, ◌<◌, ◌++◌, ◌∷◌, [], length, get_or, map, drop, ap, sym, ◌∙◌, subst}
use Rattle.std.proofs.lemmas.List.{map-append}
use Rattle.sql_ast.specs.declared.role.Role.{Role}
use Rattle.abstract_database.specs.Whole.{Each}
use Rattle.descriptions.proofs.Finding.{each_more}
use Rattle.table_access.specs.declared.role.RoleAccess.{RoleAccess}
use Rattle.table_access.specs.Accesses.{KnowsItsRoles, HasOfTable}
use Rattle.table_access.proofs.Gathering.{Copies, copies_one}
use Rattle.table_access.proofs.role.each_access.Goals as goal

abbrev its_role : RoleAccess → Role
its_role r = r.role.now

pub loop-role-preserved : goal.loop-role-preserved
loop-role-preserved c =
    let all = c.args.catalogue.now.roles in
    let same = c.roles-role-items.ensures.roles in
    let i = c.loop-role.role-index in
    let x = c.role-item.result in
    let old = c.loop-role.found.items in
    let list = c.in_ok-push.ensures.items in
    record {
      roles = subst (Copies (λ (r : Role). r) all (drop (i + 1) all)) (sym (ap (map its_role) list ∙ map-append its_role old _ ∙ ap (λ r. map its_role old ++ r ∷ []) c.in_ok-role_access.ensures.role))
          (copies_one (λ (r : Role). r) all all i x (c.role-item.is ∙ ap (λ s. get_or s i x) same) (subst (λ s. i < length s) same c.loop-role-test.true) (map its_role old) c.loop-role.invariant.roles);
      known =
          let P = KnowsItsRoles c.args.catalogue.now.memberships in
          subst (Each P) (sym list) (each_more P old _ c.loop-role.invariant.known c.in_ok-role_access.ensures.known);
      own = λ db described among.
          let P = HasOfTable db c.args.table.now.definition in
          subst (Each P) (sym list) (each_more P old _ (c.loop-role.invariant.own db described among) (c.in_ok-role_access.ensures.own db described among));
    }
