use Rattle.std.proofs.Common.{◌≡◌, ◌||◌, Bool, true, map, filter, ap, sym, ◌∙◌, subst}
use Rattle.std.specs.Borrow.{Bor}
use Rattle.std.specs.List.{list_any}
use Rattle.sql_ast.specs.declared.privilege.Descriptor.{Descriptor}
use Rattle.sql_ast.specs.declared.policy.Policy.{Policy}
use Rattle.abstract_database.specs.Database.{Database, same_action}
use Rattle.abstract_database.specs.Roles.{is_superuser}
use Rattle.abstract_database.specs.Whole.{Each}
use Rattle.stored_database.specs.Definitions.{database_of}
use Rattle.table_access.specs.declared.action.HeldGrant.{HeldGrant}
use Rattle.table_access.specs.Asking.{policy_names_user}
use Rattle.table_access.specs.Having.{grants_for}
use Rattle.table_access.specs.Accesses.{ReachesBy}
use Rattle.table_access.proofs.Gathering.{seen_any}
use Rattle.table_access.proofs.Shown.{any_grant}
use Rattle.table_access.proofs.action.action_access.Goals as goal

abbrev granted : HeldGrant → Descriptor
granted g = g.descriptor.now

abbrev its_now : Bor Policy → Policy
its_now p = p.now

pub returns : goal.returns
returns c = λ db described among.
    let role = c.args.role.now in
    let t = c.args.table.now.definition in
    let a = c.args.action in
    let grants = c.in_ok-grants.ensures.grants ∙ ap (filter (λ (d : Descriptor). same_action d.action a)) (c.requires.given db described among) in
    let policies = c.in_ok-policies.ensures db described among in
    record {
      is_allowed =
          c.is_allowed.ensures
          ∙ ap (λ xs. is_superuser (database_of c.args.catalogue.now) role || list_any (λ (g : HeldGrant). true) xs) c.as_slice-2.ensures.value
          ∙ ap (λ (x : Database). is_superuser x role || list_any (λ (g : HeldGrant). true) c.in_ok-grants.grants.items) (sym described.is)
          ∙ ap (λ b. is_superuser db role || b) (seen_any granted (λ (d : Descriptor). true) c.in_ok-grants.grants.items ∙ ap (list_any (λ (d : Descriptor). true)) grants)
          ∙ any_grant db role t a;
      on_table = c.has_privilege.ensures db described among;
      columns = c.in_ok-columns.ensures db described among;
      grants = grants;
      memberships = subst (λ ms. Each (ReachesBy ms role) c.in_ok-grants.grants.items) (c.memberships-memberships.ensures.memberships ∙ ap (λ (x : Database). x.memberships) (sym described.is)) c.in_ok-grants.ensures.memberships;
      policies = policies;
      names_user = c.any_names_user-names_user.ensures ∙ ap (list_any (λ (p : Bor Policy). policy_names_user p.now)) c.as_slice.ensures.value ∙ seen_any its_now policy_names_user c.in_ok-policies.policies.items ∙ ap (list_any policy_names_user) policies;
    }
