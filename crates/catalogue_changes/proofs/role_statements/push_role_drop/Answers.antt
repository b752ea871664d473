use Rattle.std.proofs.Common.{ap, ◌∙◌}
use Rattle.sql_ast.specs.declared.role.Role.{Role}
use Rattle.abstract_database.specs.Lists.{drop_where}
use Rattle.stored_database.specs.RecordFormat.{role_record}
use Rattle.stored_database.proofs.KeyOrder.{role_order}
use Rattle.catalogue.specs.Changes.{concerns}
use Rattle.catalogue_changes.proofs.AddLemmas.{both_added, same_membership_changes}
use Rattle.catalogue_changes.proofs.ItemLemmas.{changes_of_drop}
use Rattle.catalogue_changes.proofs.role_statements.push_role_drop.Goals as goal

pub returns : goal.returns
returns c = λ _.
    let whole = c.as_slice-memberships.ensures.items ∙ c.memberships.ensures.memberships in
    both_added _ _ _ _ c.args.out.now c.push_role_change.new.out c.push_membership_changes.new.out
    (changes_of_drop (λ (r : Role). r.name) role_record role_order c.args.name.now c.args.catalogue.now.roles c.roles-in_order.ensures.order.roles _ c.role-old.ensures)
    (same_membership_changes whole (c.as_slice.ensures ∙ c.in_ok-left.ensures ∙ ap (drop_where (concerns c.args.name.now)) whole))
    c.in_ok-push_role_change.ensures c.in_ok-push_membership_changes.ensures
