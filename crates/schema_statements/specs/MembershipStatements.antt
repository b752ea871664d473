-- GRANT and REVOKE of roles as one kind of statement.
use Rattle.std.specs.Prelude.{◌≡◌, ◌⊎◌, List, Result, Ok, Err}
use Rattle.sql_types.specs.declared.state.Refusal.{Refusal}
use Rattle.sql_types.specs.declared.state.SqlState.{SqlState}
use Rattle.sql_types.specs.declared.state.SqlState.TheVariants.{OutOfMemory}
use Rattle.sql_types.specs.declared.tag.Tag.{Tag}
use Rattle.sql_types.specs.declared.tag.Tag.TheVariants as tag
use Rattle.sql_ast.specs.declared.role.Membership.{Membership}
use Rattle.expressions.specs.Meaning.{UserNames}
use Rattle.expressions.specs.Stages.{◌>>=◌}
use Rattle.abstract_database.specs.Lists.{TheName}
use Rattle.abstract_database.specs.Database.{Database}
use Rattle.abstract_database.specs.Roles.{without_memberships}
use Rattle.abstract_database.specs.Checks.{checked_grant_role, checked_revoke_role}
use Rattle.abstract_database.specs.Statements.{grant_role, revoke_role}
use Rattle.stored_database.specs.Definitions.{Definitions}
use Rattle.role_membership.specs.Rights.{database_of}
use Rattle.catalogue.specs.Executed.{Execution}
use Rattle.catalogue_changes.specs.Carried.{IsCurrent}
use Rattle.schema_statements.specs.declared.membership_statement.MembershipStatement.{MembershipStatement}
use Rattle.schema_statements.specs.declared.membership_statement.MembershipStatement.TheVariants as statement

-- what its answer says that was done
abbrev pub tag_of : MembershipStatement → Tag
tag_of (statement.Grant s) = tag.GrantRole
tag_of (statement.Revoke s) = tag.RevokeRole

-- what it does in a database
abbrev pub run_of : MembershipStatement → Execution
run_of (statement.Grant s) = λ db users. grant_role db users s.now
run_of (statement.Revoke s) = λ db users. revoke_role db users s.now

-- the memberships that it sets, or its refusal
abbrev pub set_by : MembershipStatement → Database → UserNames → Result (List Membership) SqlState
set_by (statement.Grant s) db users = checked_grant_role db users s.now
set_by (statement.Revoke s) db users = do
  free ← checked_revoke_role db users s.now
  Ok (without_memberships s.now.admin_option_for s.now.roles s.now.members db.memberships)

-- over the roles and memberships of these definitions the statement of this role sets these memberships
abbrev pub Sets : TheName → MembershipStatement → Definitions → List Membership → Type 0
Sets current s d new = (users : UserNames) → IsCurrent current users → set_by s (database_of d.roles d.memberships) users ≡ Ok new

-- memory was refused, or over those the statement of this role is refused so
abbrev pub IsRefusedSo : TheName → MembershipStatement → Definitions → Refusal → Type 0
IsRefusedSo current s d refusal = (refusal.0 ≡ OutOfMemory)
    ⊎ ((users : UserNames) → IsCurrent current users → set_by s (database_of d.roles d.memberships) users ≡ Err refusal.0)
