use Rattle.std.proofs.Common.{◌≡◌, ◌+◌, ◌++◌, ◌∷◌, [], map, drop, ap, sym, ◌∙◌, subst}
use Rattle.std.proofs.lemmas.List.{map-append}
use Rattle.sql_ast.specs.declared.role.Role.{Role}
use Rattle.abstract_database.specs.Whole.{Each}
use Rattle.descriptions.proofs.Finding.{each_more}
use Rattle.table_access.specs.declared.acting.SettableRole.{SettableRole}
use Rattle.table_access.specs.declared.role.RoleAccess.{RoleAccess}
use Rattle.table_access.specs.Accesses.{IsActedAs}
use Rattle.table_access.specs.Likeness.{is_shown}
use Rattle.table_access.proofs.Gathering.{Gathers, gathers_one, gathers_none}
use Rattle.table_access.proofs.acting.shown_roles.Goals.{then-is_shown+in_ok-acting_role+in_ok-push, else-is_shown}
use Rattle.table_access.proofs.acting.shown_roles.Goals as goal

abbrev its_role : RoleAccess → Role
its_role r = r.role.now

abbrev set_role : SettableRole → Role
set_role y = y.role.now

pub loop-other-preserved : goal.loop-other-preserved
loop-other-preserved c =
    let xs = c.args.roles.now in
    let i = c.loop-other.other-index in
    let x = c.other-item.result in
    let old = c.loop-other.found.items in
    let test = is_shown c.args.is_superuser c.args.one.now in
    let P = IsActedAs c.args.memberships.now c.args.one.now.role.now.name in
    elim c.if-is_shown.branch [
      | then-is_shown+in_ok-acting_role+in_ok-push w ↦
          let list = ap (λ v. v.items) w.found-is ∙ w.in_ok-push.ensures.items in
          record {
            shown = subst (Gathers its_role test xs (drop (i + 1) xs)) (sym (ap (map set_role) list ∙ map-append set_role old _ ∙ ap (λ r. map set_role old ++ r ∷ []) w.in_ok-acting_role.ensures.role))
                (gathers_one its_role test xs i x c.other-item.is c.loop-other-test.true (map set_role old) (sym c.is_shown.ensures ∙ w.if-is_shown.true) c.loop-other.invariant.shown);
            memberships = subst (Each P) (sym list) (each_more P old _ c.loop-other.invariant.memberships w.in_ok-acting_role.ensures.memberships);
          }
      | else-is_shown w ↦
          let list = ap (λ v. v.items) (sym w.found-is) in
          record {
            shown = subst (λ l. Gathers its_role test xs (drop (i + 1) xs) (map set_role l)) list
                (gathers_none its_role test xs i x c.other-item.is c.loop-other-test.true (map set_role old) (sym c.is_shown.ensures ∙ w.if-is_shown.false) c.loop-other.invariant.shown);
            memberships = subst (Each P) list c.loop-other.invariant.memberships;
          }
    ]
