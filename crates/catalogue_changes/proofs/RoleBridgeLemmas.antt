-- Statements on roles and memberships, as changes.
use Rattle.std.proofs.Common.{◌≡◌, List, Result, Ok, refl, ap, sym, ◌∙◌, subst}
use Rattle.sql_types.specs.declared.state.SqlState.{SqlState}
use Rattle.sql_ast.specs.declared.role.Membership.{Membership}
use Rattle.sql_ast.specs.declared.statement.CreateRole.{CreateRole}
use Rattle.sql_ast.specs.declared.statement.DropRole.{DropRole}
use Rattle.sql_ast.specs.declared.statement.GrantRole.{GrantRole}
use Rattle.sql_ast.specs.declared.statement.RevokeRole.{RevokeRole}
use Rattle.expressions.specs.Meaning.{UserNames}
use Rattle.expressions.specs.Stages.{◌>>=◌}
use Rattle.abstract_database.specs.Database.{Database}
use Rattle.abstract_database.specs.Roles.{without_memberships}
use Rattle.abstract_database.specs.Checks.{checked_create_role, checked_drop_role, checked_grant_role, checked_revoke_role}
use Rattle.abstract_database.specs.Statements.{Effect, create_role, drop_role, grant_role, revoke_role}
use Rattle.abstract_database.proofs.ResultLemmas.{bind_ok, ok_inside}
use Rattle.stored_database.specs.Definitions.{Definitions}
use Rattle.stored_database.specs.Valid.{Describes}
use Rattle.catalogue.specs.declared.change.SchemaChange.{SchemaChange}
use Rattle.catalogue.specs.declared.change.SchemaChange.TheVariants as change
use Rattle.catalogue_changes.specs.StatementChanges.{Makes, IsDoneBy, role_by}

-- what holds of the database after each run of the checks holds of that after the statement
pub done_by : {A : Type 0} (c : SchemaChange) (d : Definitions) (db : Database) (checks : Result A SqlState) (go : A → Effect) → ((a : A) → checks ≡ Ok a → Makes c d db (go a).database)
    → IsDoneBy c d db (checks >>= λ a. Ok (go a))
done_by c d db checks go makes e is =
    let steps = bind_ok checks (λ a. Ok (go a)) e is in
    subst (λ (f : Effect). Makes c d db f.database) (ok_inside (go steps.0) e steps.2) (makes steps.0 steps.1)

pub create_role_done : (d : Definitions) (db : Database) (users : UserNames) (s : CreateRole) → IsDoneBy (change.PutRole (role_by s)) d db (create_role db users s)
create_role_done d db users s = done_by (change.PutRole (role_by s)) d db (checked_create_role db users s) _ (λ u is. record { fits = tt; is = refl })

pub drop_role_done : (d : Definitions) (db : Database) (users : UserNames) (s : DropRole) → IsDoneBy (change.DropRole s.role) d db (drop_role db users s)
drop_role_done d db users s = done_by (change.DropRole s.role) d db (checked_drop_role db users s) _ (λ u is. record { fits = tt; is = refl })

pub grant_role_done : (d : Definitions) (db : Database) (users : UserNames) (s : GrantRole) (ms : List Membership) → checked_grant_role db users s ≡ Ok ms → IsDoneBy (change.SetMemberships ms) d db (grant_role db users s)
grant_role_done d db users s ms checked = done_by (change.SetMemberships ms) d db (checked_grant_role db users s) _ (λ ns is. record {
  fits = tt;
  is = ap (λ (ls : List Membership). record db { memberships = ls }) (ok_inside ns ms (sym is ∙ checked));
})

pub revoke_role_done : (d : Definitions) (db : Database) (users : UserNames) (s : RevokeRole) → Describes d db
    → IsDoneBy (change.SetMemberships (without_memberships s.admin_option_for s.roles s.members d.memberships)) d db (revoke_role db users s)
revoke_role_done d db users s described = done_by (change.SetMemberships (without_memberships s.admin_option_for s.roles s.members d.memberships)) d db (checked_revoke_role db users s) _ (λ u is. record {
  fits = tt;
  is = ap (λ (z : Database). record db { memberships = without_memberships s.admin_option_for s.roles s.members z.memberships }) described.is;
})
