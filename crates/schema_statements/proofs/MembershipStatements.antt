-- GRANT and REVOKE of roles in each database of the definitions.
use Rattle.std.proofs.Common.{◌≡◌, List, false, None, Result, Ok, Err, refl, sym, ap, ◌∙◌, subst, inl, inr}
use Rattle.sql_types.specs.declared.answer.Answer.TheVariants.{Done}
use Rattle.sql_types.specs.declared.tag.Tag.TheVariants as tag
use Rattle.sql_types.specs.declared.state.Refusal.{Refusal}
use Rattle.sql_types.specs.declared.state.SqlState.{SqlState}
use Rattle.sql_ast.specs.declared.role.Role.{Role}
use Rattle.sql_ast.specs.declared.role.Membership.{Membership}
use Rattle.sql_ast.specs.declared.statement.DatabaseStatement.TheVariants as on_database
use Rattle.sql_ast.specs.declared.statement.DefiningStatement.TheVariants as defining
use Rattle.sql_ast.specs.declared.statement.RevokeRole.{RevokeRole}
use Rattle.expressions.specs.Meaning.{UserNames}
use Rattle.expressions.specs.Stages.{◌>>=◌}
use Rattle.abstract_database.specs.Lists.{TheName, Rising}
use Rattle.abstract_database.specs.Database.{Database, role_cmp, membership_cmp}
use Rattle.abstract_database.specs.Roles.{without_memberships}
use Rattle.abstract_database.specs.Checks.{checked_grant_role, checked_revoke_role}
use Rattle.abstract_database.specs.Statements.{Effect, done}
use Rattle.abstract_database.specs.Whole.{IsWhole}
use Rattle.stored_database.specs.Definitions.{Definitions}
use Rattle.stored_database.specs.Valid.{Describes}
use Rattle.stored_database.proofs.Wholeness.{described_whole}
use Rattle.role_membership.specs.Rights.{database_of}
use Rattle.database_laws.proofs.OrderLemmas.{ordered}
use Rattle.database_laws.proofs.WholeRoles.{whole_of, grant_role_whole, revoke_role_whole}
use Rattle.catalogue.specs.declared.change.SchemaChange.TheVariants as change
use Rattle.catalogue_changes.specs.Carried.{IsCurrent, Refuses}
use Rattle.schema_statements.specs.MembershipStatements.{tag_of, run_of, set_by, Sets, IsRefusedSo}
use Rattle.schema_statements.specs.declared.membership_statement.MembershipStatement.{MembershipStatement}
use Rattle.schema_statements.specs.declared.membership_statement.MembershipStatement.TheVariants as statement
use Rattle.schema_statements.proofs.RoleCarrying.{Makes, people_described}

-- the definitions with these memberships describe the database with them
set_described : (d : Definitions) (db : Database) (new : List Membership) → Describes d db → IsWhole (record db { memberships = new }) → Describes (record d { memberships = new }) (record db { memberships = new })
set_described d db new h whole =
    let is : record db { memberships = new } ≡ record db { roles = d.roles; memberships = new } = ap (λ (x : Database). record db { roles = x.roles; memberships = new }) h.is in
    subst (λ x. Describes (record d { memberships = new }) x) (sym is) (people_described d db d.roles new h (subst IsWhole is whole))

-- ---- the memberships that a statement sets

set_in : (s : MembershipStatement) (d : Definitions) (db : Database) (users : UserNames) → Describes d db → set_by s db users ≡ set_by s (database_of d.roles d.memberships) users
set_in (statement.Grant s) d db users h = ap (λ (x : Database). checked_grant_role x users s.now) h.is
set_in (statement.Revoke s) d db users h = ap (λ (x : Database). set_by (statement.Revoke s) x users) h.is

-- those that REVOKE leaves rise
pub left_rises : (roles : List Role) (memberships : List Membership) (current : TheName) (s : RevokeRole) → ((users : UserNames) → users.current ≡ current → checked_revoke_role (database_of roles memberships) users s ≡ Ok tt) →
    Rising role_cmp roles → Rising membership_cmp memberships → Rising membership_cmp (without_memberships s.admin_option_for s.roles s.members memberships)
left_rises roles memberships current s checked roles_rise memberships_rise =
    let db = database_of roles memberships in
    let after : Database = record db { memberships = without_memberships s.admin_option_for s.roles s.members memberships } in
    let users : UserNames = record { current = current; session = current; is_in = λ name. false } in
    (ordered db users (on_database.Defining (defining.RevokeRole s)) (done tag.RevokeRole after)
    (ap (λ r. r >>= λ free. Ok (done tag.RevokeRole after)) (checked users refl))
    (record { roles = roles_rise; memberships = memberships_rise; tables = tt; descriptors = tt; policies = tt })).memberships

-- ---- what a statement does in each database of the definitions

-- the database with these memberships, or the refusal
abbrev with_those : MembershipStatement → Database → Result (List Membership) SqlState → Result Effect SqlState
with_those s db r = r >>= λ ms. Ok (done (tag_of s) (record db { memberships = ms }))

run_sets : (s : MembershipStatement) (db : Database) (users : UserNames) → run_of s db users ≡ with_those s db (set_by s db users)
run_sets (statement.Grant s) db users = refl
run_sets (statement.Revoke s) db users = go (checked_revoke_role db users s.now) where
  go : (r : Result (Unit {0}) SqlState) → (r >>= λ free. Ok (done tag.RevokeRole (record db { memberships = without_memberships s.now.admin_option_for s.now.roles s.now.members db.memberships })))
      ≡ with_those (statement.Revoke s) db (r >>= λ free. Ok (without_memberships s.now.admin_option_for s.now.roles s.now.members db.memberships))
  go (Ok free) = refl
  go (Err code) = refl

leaves_whole : (s : MembershipStatement) (d : Definitions) (db : Database) (users : UserNames) (e : Effect) → Describes d db → run_of s db users ≡ Ok e → IsWhole e.database
leaves_whole (statement.Grant s) d db users e h is =
    let w = described_whole d db h in
    whole_of e.database (ordered db users (on_database.Defining (defining.GrantRole s.now)) e is w.definitions.order) (grant_role_whole db users s.now w e is)
leaves_whole (statement.Revoke s) d db users e h is =
    let w = described_whole d db h in
    whole_of e.database (ordered db users (on_database.Defining (defining.RevokeRole s.now)) e is w.definitions.order) (revoke_role_whole db users s.now w e is)

module _ (s : MembershipStatement) (d : Definitions) (current : TheName) where
  pub sets : (new : List Membership) → Sets current s d new →
      (db : Database) (users : UserNames) → Describes d db → users.current ≡ current → Makes (run_of s) (change.SetMemberships new) d (Done (tag_of s) None None) db users
  sets new set db users h by =
      let after : Database = record db { memberships = new } in
      let is : run_of s db users ≡ Ok (done (tag_of s) after) = run_sets s db users ∙ ap (with_those s db) (set_in s d db users h ∙ set users by) in
      let whole : IsWhole after = leaves_whole s d db users (done (tag_of s) after) h is in
      record { after = after; effects = is; changes = refl; whole = whole; describes = set_described d db new h whole }

  pub refused : (x : Refusal) → IsRefusedSo current s d x → Refuses (IsCurrent current) (run_of s) d x
  refused x (inl e) = inl e
  refused x (inr e) = inr (λ db users h by. run_sets s db users ∙ ap (with_those s db) (set_in s d db users h ∙ e users by))
