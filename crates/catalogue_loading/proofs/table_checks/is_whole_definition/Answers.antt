use Rattle.std.proofs.Common.{◌≡◌, sym, refl, subst, true, IsTrue, ◌↔◌}
use Rattle.std.specs.List.{list_any}
use Rattle.std.proofs.lemmas.Bool.{false≢true}
use Rattle.sql_types.specs.Name.{IsUtf8Name}
use Rattle.sql_ast.specs.Layout.{IsLayout}
use Rattle.abstract_database.specs.Database.{is_role_named}
use Rattle.catalogue_loading.specs.ValidityParts.{HasWholePrivileges, IsWholeDefinition}
use Rattle.catalogue_loading.proofs.Lists.{if_ok_more}
use Rattle.catalogue_loading.proofs.Bound.{not_whole, whole_definition}
use Rattle.catalogue_loading.proofs.table_checks.is_whole_definition.Goals as goal

pub returns-then-not-are_policies : goal.returns-then-not-are_policies
returns-then-not-are_policies c = not_whole c.args.catalogue.now.roles c.args.table.now c.policies-policies.result.now c.policies-policies.ensures.policies (λ h. false≢true (c.if-not-are_policies.ensures.1 h))

pub returns : goal.returns
returns c =
    let all = c.args.catalogue.now.roles in
    let t = c.args.table.now in
    if_ok_more (λ b. IsTrue b ↔ HasWholePrivileges all t) (λ b. IsTrue b ↔ IsWholeDefinition all t) c.has_whole_privileges.result
    (λ b iff. whole_definition all t c.policies-policies.result.now c.policies-policies.ensures.policies
    (subst IsUtf8Name c.name.ensures c.know_name.ensures)
    (subst (λ n. list_any (is_role_named n) all ≡ true) c.owner.ensures (sym c.if-not-has_role.ensures))
    (subst IsLayout c.columns.ensures c.as_slice.ensures.layout)
    c.policies-policies.ensures.order c.policies-policies.ensures.bound (c.if-not-are_policies.ensures.0 refl) b iff)
    c.has_whole_privileges.ensures
