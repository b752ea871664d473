use Rattle.std.proofs.Common.{◌≡◌, ◌+◌, ◌++◌, ◌∷◌, [], not, ◌&&◌, map, drop, bytes_eq, ap, sym, ◌∙◌, subst}
use Rattle.std.proofs.lemmas.List.{map-append}
use Rattle.sql_ast.specs.declared.role.Role.{Role}
use Rattle.abstract_database.specs.Whole.{Each}
use Rattle.descriptions.proofs.Finding.{Finds, each_more, slice_takes, slice_passes}
use Rattle.table_access.specs.declared.acting.SettableRole.{SettableRole}
use Rattle.table_access.specs.Accesses.{IsActedAs}
use Rattle.table_access.specs.Powers.{comes_to}
use Rattle.table_access.proofs.powers.other_roles.Goals.{then-comes_to+in_ok-acting_role+in_ok-push, else-comes_to}
use Rattle.table_access.proofs.powers.other_roles.Goals as goal

abbrev set_role : SettableRole → Role
set_role y = y.role.now

pub loop-other-preserved : goal.loop-other-preserved
loop-other-preserved c =
    let ms = c.args.catalogue.now.memberships in
    let all = c.args.catalogue.now.roles in
    let role = c.args.role.now in
    let slice = c.roles-other-items.result.now in
    let same : slice ≡ all = c.roles-other-items.ensures.roles in
    let i = c.loop-other.other-index in
    let x = c.other-item.result in
    let old = c.loop-other.found.items in
    let test = comes_to ms role in
    let told = c.comes_to.ensures ∙ ap (λ b. not role.attributes.superuser && not (bytes_eq role.name x.name) && b) (c.requires.roles x.name) in
    let P = IsActedAs ms role.name in
    elim c.if-comes_to.branch [
      | then-comes_to+in_ok-acting_role+in_ok-push w ↦
          let list = ap (λ v. v.items) w.found-is ∙ w.in_ok-push.ensures.items in
          record {
            others = subst (Finds test all (drop (i + 1) all)) (sym (ap (map set_role) list ∙ map-append set_role old _ ∙ ap (λ r. map set_role old ++ r ∷ []) w.in_ok-acting_role.ensures.role))
                (slice_takes test all slice same i x c.other-item.is c.loop-other-test.true (map set_role old) (sym told ∙ w.if-comes_to.true) c.loop-other.invariant.others);
            memberships = subst (Each P) (sym list) (each_more P old _ c.loop-other.invariant.memberships (subst (λ m. IsActedAs m role.name w.in_ok-acting_role.field-0) c.memberships-memberships.ensures.memberships w.in_ok-acting_role.ensures.memberships));
          }
      | else-comes_to w ↦
          let list = ap (λ v. v.items) (sym w.found-is) in
          record {
            others = subst (λ l. Finds test all (drop (i + 1) all) (map set_role l)) list
                (slice_passes test all slice same i x c.other-item.is c.loop-other-test.true (map set_role old) (sym told ∙ w.if-comes_to.false) c.loop-other.invariant.others);
            memberships = subst (Each P) list c.loop-other.invariant.memberships;
          }
    ]
