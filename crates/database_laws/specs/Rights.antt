-- The rights of roles, and laws of the roles that statements are executed for.
use Rattle.std.specs.Prelude.{◌≡◌, ◌⊎◌, ℕ, true, false, unwrap_or, Some, Ok}
use Rattle.sql_types.specs.declared.tag.Tag.{Tag}
use Rattle.sql_types.specs.declared.tag.Tag.TheVariants as tag
use Rattle.sql_ast.specs.declared.role.Membership.{Membership}
use Rattle.sql_ast.specs.declared.privilege.Privilege.{Privilege}
use Rattle.sql_ast.specs.declared.statement.Statement.{Statement}
use Rattle.sql_ast.specs.declared.statement.Statement.TheVariants as statement
use Rattle.sql_ast.specs.declared.statement.SessionStatement.TheVariants as of_session
use Rattle.sql_ast.specs.declared.statement.SetRole.{SetRole}
use Rattle.abstract_database.specs.Lists.{TheName, Among}
use Rattle.abstract_database.specs.Database.{TableOf, Database, definition_named}
use Rattle.abstract_database.specs.Roles.{IsIn, IsSuperuser}
use Rattle.abstract_database.specs.Privileges.{HasPrivilege}
use Rattle.abstract_database.specs.Machine.{Session, Machine, Transition, succeeds, with_session_changed, session_of, as_role, seen, sets_role}
use Rattle.abstract_database.specs.Whole.{IsRoleOf}
use Rattle.database_laws.specs.Blocks.{IsOpen, executed, IsRefused}

-- ---- rights

-- the role may act as another one: a superuser as each, a role as each that it is in
abbrev pub ActsAs : Database → TheName → TheName → Type 0
ActsAs db role other = IsSuperuser db role ⊎ IsIn db.memberships role other

abbrev pub ActsAsOwnerOf : Database → TheName → TheName → Type 0
ActsAsOwnerOf db role table = (t : TableOf) × (definition_named db table ≡ Some t) × ActsAs db role t.owner

-- the role is in a member of the other one that has the admin option
abbrev pub HasAdminOption : Database → TheName → TheName → Type 0
HasAdminOption db role granted = (m : Membership) × Among m db.memberships × (m.role ≡ granted) × (m.admin ≡ true) × IsIn db.memberships role m.member

-- a superuser grants each role, another role those that are no superusers and that it has the admin option for
abbrev pub MayGrantRole : Database → TheName → TheName → Type 0
MayGrantRole db role granted = IsSuperuser db role ⊎ ((IsSuperuser db granted → ⊥) × HasAdminOption db role granted)

abbrev pub HasSomePrivilege : Database → TheName → TheName → Type 0
HasSomePrivilege db role table = (p : Privilege) × HasPrivilege db role table p

-- ---- roles of sessions

-- the login role is there, and so is the set role, which the login role may act as
pub record IsFor (db : Database) (login role : TheName) : Type 0 where
  pub has_login : IsRoleOf db.roles login
  pub has_role : IsRoleOf db.roles role
  pub allowed : ActsAs db login role

-- a statement is executed for roles as its session sees them, whatever has become of them since they were set
abbrev pub executed_for_roles : Type 0
executed_for_roles = (m : Machine) (number : ℕ) (s : Session) (x : Statement) → IsOpen m number s → (x ≡ (statement.OfSession of_session.Commit) → ⊥) → (x ≡ (statement.OfSession of_session.Rollback) → ⊥) →
    (IsRefused (executed m number (Ok x)) → ⊥) → sets_role x ≡ false → IsFor (seen m number) s.login s.role

-- SET ROLE sets a role that there is, and that the login role may act as
abbrev pub set_roles_are_allowed : Type 0
set_roles_are_allowed = (m : Machine) (number : ℕ) (s : Session) (r : SetRole) (role : TheName) → IsOpen m number s → r.role ≡ Some role →
    (IsRefused (executed m number (Ok (statement.OfSession (of_session.SetRole r)))) → ⊥) →
    IsFor (seen m number) s.login role × (session_of number (executed m number (Ok (statement.OfSession (of_session.SetRole r)))).machine.sessions ≡ Some (as_role role s))

-- the session has this role set, and nothing else has changed
abbrev pub HasRoleSet : Machine → ℕ → Session → Tag → TheName → Transition → Type 0
HasRoleSet m number s t role after = after ≡ succeeds t (with_session_changed m number (as_role role s))

-- SET ROLE sets its role, and with NONE the login role
abbrev pub roles_are_set : Type 0
roles_are_set = (m : Machine) (number : ℕ) (s : Session) (r : SetRole) → IsOpen m number s → (IsRefused (executed m number (Ok (statement.OfSession (of_session.SetRole r)))) → ⊥) →
    HasRoleSet m number s tag.Set (unwrap_or r.role s.login) (executed m number (Ok (statement.OfSession (of_session.SetRole r))))

-- RESET ROLE sets the login role
abbrev pub roles_are_reset : Type 0
roles_are_reset = (m : Machine) (number : ℕ) (s : Session) → IsOpen m number s → (IsRefused (executed m number (Ok (statement.OfSession of_session.ResetRole))) → ⊥) →
    HasRoleSet m number s tag.Reset s.login (executed m number (Ok (statement.OfSession of_session.ResetRole)))
