-- Laws of the statements that define: who may issue them; and of those that define roles, tables and policies what they leave:
-- what comes, goes or changes, and that all else stays.
use Rattle.std.specs.Prelude.{◌≡◌, ◌⊎◌, ◌↔◌, Bool, true, false, List, [], bytes_eq, unwrap_or, Option, Some, None, Ok, Err}
use Rattle.sql_types.specs.declared.state.SqlState.TheVariants.{InsufficientPrivilege}
use Rattle.sql_types.specs.declared.answer.Answer.TheVariants as answer
use Rattle.sql_types.specs.declared.tag.Tag.TheVariants as tag
use Rattle.sql_ast.specs.declared.role.Role.{Role}
use Rattle.sql_ast.specs.declared.role.Membership.{Membership}
use Rattle.sql_ast.specs.declared.role.RoleAttribute.{RoleAttribute}
use Rattle.sql_ast.specs.declared.role.RoleAttribute.TheVariants as attribute
use Rattle.sql_ast.specs.declared.privilege.Action.{Action}
use Rattle.sql_ast.specs.declared.privilege.Grantor.TheVariants as grantor
use Rattle.sql_ast.specs.declared.privilege.Grantee.{Grantee}
use Rattle.sql_ast.specs.declared.privilege.Grantee.TheVariants as grantee
use Rattle.sql_ast.specs.declared.privilege.Descriptor.{Descriptor}
use Rattle.sql_ast.specs.declared.policy.Policy.{Policy}
use Rattle.sql_ast.specs.declared.policy.PolicyKind.TheVariants.{Permissive}
use Rattle.sql_ast.specs.declared.policy.PolicyCommand.TheVariants as command
use Rattle.sql_ast.specs.declared.policy.PolicyRoles.{PolicyRoles}
use Rattle.sql_ast.specs.declared.policy.PolicyRoles.TheVariants as roles
use Rattle.sql_ast.specs.declared.statement.DatabaseStatement.TheVariants as on_database
use Rattle.sql_ast.specs.declared.statement.DefiningStatement.{DefiningStatement}
use Rattle.sql_ast.specs.declared.statement.DefiningStatement.TheVariants as defining
use Rattle.sql_ast.specs.declared.statement.CreateRole.{CreateRole}
use Rattle.sql_ast.specs.declared.statement.DropRole.{DropRole}
use Rattle.sql_ast.specs.declared.statement.CreateTable.{CreateTable}
use Rattle.sql_ast.specs.declared.statement.DropTable.{DropTable}
use Rattle.sql_ast.specs.declared.statement.AlterTable.{AlterTable}
use Rattle.sql_ast.specs.declared.statement.RowSecurityChange.{RowSecurityChange}
use Rattle.sql_ast.specs.declared.statement.RowSecurityChange.TheVariants as change
use Rattle.sql_ast.specs.declared.statement.CreatePolicy.{CreatePolicy}
use Rattle.sql_ast.specs.declared.statement.DropPolicy.{DropPolicy}
use Rattle.sql_types.specs.Row.{Row}
use Rattle.sql_types.specs.declared.value.Value.TheVariants.{Bool as Boolean}
use Rattle.expressions.specs.Meaning.{UserNames}
use Rattle.abstract_database.specs.Lists.{TheName, Among}
use Rattle.abstract_database.specs.Guards.{Clauses, is_guarded, is_permissive, guard}
use Rattle.abstract_database.specs.Roles.{IsSuperuser}
use Rattle.abstract_database.specs.Database.{TableOf, Table, Database, table_named}
use Rattle.abstract_database.specs.Definitions.{layout_of}
use Rattle.abstract_database.specs.Statements.{Effect, UserPair, define, drop_policy, exec}
use Rattle.abstract_database.specs.Whole.{IsWhole}
use Rattle.database_laws.specs.Rights.{ActsAsOwnerOf, MayGrantRole, HasSomePrivilege}

-- ---- rights

-- who may issue a defining statement: every role creates tables
abbrev pub MayDefine : Database → TheName → DefiningStatement → Type 0
MayDefine db role (defining.CreateRole s) = IsSuperuser db role
MayDefine db role (defining.DropRole s) = IsSuperuser db role
MayDefine db role (defining.GrantRole s) = (granted : TheName) → Among granted s.roles → MayGrantRole db role granted
MayDefine db role (defining.RevokeRole s) = (granted : TheName) → Among granted s.roles → MayGrantRole db role granted
MayDefine db role (defining.CreateTable s) = Unit {0}
MayDefine db role (defining.DropTable s) = ActsAsOwnerOf db role s.table
MayDefine db role (defining.AlterTable s) = ActsAsOwnerOf db role s.table
MayDefine db role (defining.CreatePolicy s) = ActsAsOwnerOf db role s.table
MayDefine db role (defining.DropPolicy s) = ActsAsOwnerOf db role s.table
MayDefine db role (defining.Grant s) = HasSomePrivilege db role s.table
MayDefine db role (defining.Revoke s) = HasSomePrivilege db role s.table

-- a statement that is not refused is one that its role may issue
abbrev pub definers_may_define : Type 0
definers_may_define = (db : Database) (users : UserNames) (x : DefiningStatement) (e : Effect) → define db users x ≡ Ok e → MayDefine db users.current x

-- and one that its role may issue is not refused for want of a privilege
abbrev pub who_may_define_does : Type 0
who_may_define_does = (db : Database) (users : UserNames) (x : DefiningStatement) → MayDefine db users.current x → define db users x ≡ Err InsufficientPrivilege → ⊥

-- ---- CREATE ROLE

-- an attribute that the role has is written, and one that is written without its contrary it has
pub record IsAsWritten (s : CreateRole) (on off : RoleAttribute) (has : Bool) : Type 0 where
  pub only : has ≡ true → Among on s.attributes
  pub written : Among on s.attributes → (Among off s.attributes → ⊥) → has ≡ true

-- the role that the statement defines
pub record IsRoleBy (s : CreateRole) (r : Role) : Type 0 where
  pub name : r.name ≡ s.role
  pub superuser : IsAsWritten s attribute.Superuser attribute.NoSuperuser r.attributes.superuser
  pub login : IsAsWritten s attribute.Login attribute.NoLogin r.attributes.login
  pub bypass_rls : IsAsWritten s attribute.BypassRls attribute.NoBypassRls r.attributes.bypass_rls

-- that role comes, and no other
pub record AddsRole (db : Database) (s : CreateRole) (e : Effect) : Type 0 where
  pub new : Role
  pub by : IsRoleBy s new
  pub roles : (r : Role) → Among r e.database.roles ↔ (Among r db.roles ⊎ (r ≡ new))
  pub others : e.database ≡ record db { roles = e.database.roles }
  pub answer : e.answer ≡ answer.Done tag.CreateRole None None

abbrev pub create_role_adds_it : Type 0
create_role_adds_it = (db : Database) (pair : UserPair) (s : CreateRole) (e : Effect) → exec db pair (on_database.Defining (defining.CreateRole s)) ≡ Ok e → AddsRole db s e

-- ---- DROP ROLE

-- the role goes, and each membership of which it is the role or the member
pub record DropsRole (db : Database) (s : DropRole) (e : Effect) : Type 0 where
  pub roles : (r : Role) → Among r e.database.roles ↔ (Among r db.roles × (r.name ≡ s.role → ⊥))
  pub memberships : (m : Membership) → Among m e.database.memberships ↔ (Among m db.memberships × ((m.role ≡ s.role) ⊎ (m.member ≡ s.role) → ⊥))
  pub others : e.database ≡ record db { roles = e.database.roles; memberships = e.database.memberships }
  pub answer : e.answer ≡ answer.Done tag.DropRole None None

abbrev pub drop_role_takes_it : Type 0
drop_role_takes_it = (db : Database) (pair : UserPair) (s : DropRole) (e : Effect) → exec db pair (on_database.Defining (defining.DropRole s)) ≡ Ok e → DropsRole db s e

-- ---- CREATE TABLE

-- the new table of the current role, without rows and without row security
abbrev pub new_table : CreateTable → TheName → Table
new_table s owner = record { definition = record { name = s.table; owner = owner; layout = layout_of s.elements; row_security = false; forced = false }; rows = [] }

-- what the system grants its owner: an action on the whole table, with the grant option
abbrev pub granted_to_owner : CreateTable → TheName → Action → Descriptor
granted_to_owner s owner a = record { grantor = grantor.System; grantee = grantee.Role owner; table = s.table; action = a; column = None; grantable = true }

-- the table comes, and the owner's descriptor for each action
pub record AddsTable (db : Database) (s : CreateTable) (owner : TheName) (e : Effect) : Type 0 where
  pub tables : (t : Table) → Among t e.database.tables ↔ (Among t db.tables ⊎ (t ≡ new_table s owner))
  pub descriptors : (d : Descriptor) → Among d e.database.descriptors ↔ (Among d db.descriptors ⊎ ((a : Action) × (d ≡ granted_to_owner s owner a)))
  pub others : e.database ≡ record db { tables = e.database.tables; descriptors = e.database.descriptors }
  pub answer : e.answer ≡ answer.Done tag.CreateTable None None

abbrev pub create_table_adds_it : Type 0
create_table_adds_it = (db : Database) (pair : UserPair) (s : CreateTable) (e : Effect) → IsWhole db → exec db pair (on_database.Defining (defining.CreateTable s)) ≡ Ok e → AddsTable db s pair.current e

-- ---- DROP TABLE

-- the table goes with its rows, and so do its descriptors and its policies
pub record DropsTable (db : Database) (s : DropTable) (e : Effect) : Type 0 where
  pub tables : (t : Table) → Among t e.database.tables ↔ (Among t db.tables × (t.definition.name ≡ s.table → ⊥))
  pub descriptors : (d : Descriptor) → Among d e.database.descriptors ↔ (Among d db.descriptors × (d.table ≡ s.table → ⊥))
  pub policies : (p : Policy) → Among p e.database.policies ↔ (Among p db.policies × (p.table ≡ s.table → ⊥))
  pub others : e.database ≡ record db { tables = e.database.tables; descriptors = e.database.descriptors; policies = e.database.policies }
  pub answer : e.answer ≡ answer.Done tag.DropTable None None

abbrev pub drop_table_takes_it : Type 0
drop_table_takes_it = (db : Database) (pair : UserPair) (s : DropTable) (e : Effect) → exec db pair (on_database.Defining (defining.DropTable s)) ≡ Ok e → DropsTable db s e

-- ---- ALTER TABLE

-- the one flag that a change concerns
abbrev pub with_flag : RowSecurityChange → TableOf → TableOf
with_flag change.Enable t = record t { row_security = true }
with_flag change.Disable t = record t { row_security = false }
with_flag change.Force t = record t { forced = true }
with_flag change.NoForce t = record t { forced = false }

-- that flag of the table changes, and nothing else of it or of another one
pub record AltersTable (db : Database) (s : AlterTable) (t : Table) (e : Effect) : Type 0 where
  pub altered : table_named e.database s.table ≡ Some (record t { definition = with_flag s.change t.definition })
  pub other_tables : (other : TheName) → bytes_eq other s.table ≡ false → table_named e.database other ≡ table_named db other
  pub others : e.database ≡ record db { tables = e.database.tables }
  pub answer : e.answer ≡ answer.Done tag.AlterTable None None

abbrev pub alter_table_sets_a_flag : Type 0
alter_table_sets_a_flag = (db : Database) (pair : UserPair) (s : AlterTable) (t : Table) (e : Effect) → table_named db s.table ≡ Some t → exec db pair (on_database.Defining (defining.AlterTable s)) ≡ Ok e → AltersTable db s t e

-- ---- CREATE POLICY

-- the roles that a policy is for: all of them, where it says nothing or PUBLIC, and else those that it names
abbrev pub AreRolesBy : Option (List Grantee) → PolicyRoles → Type 0
AreRolesBy None r = r ≡ roles.Public
AreRolesBy (Some grantees) roles.Public = Among grantee.Public grantees
AreRolesBy (Some grantees) (roles.Only names) = (Among grantee.Public grantees → ⊥) × ((n : TheName) → Among n names ↔ Among (grantee.Role n) grantees)

-- the policy that the statement defines: permissive and for all commands, where it says nothing else
pub record IsPolicyBy (s : CreatePolicy) (p : Policy) : Type 0 where
  pub table : p.table ≡ s.table
  pub name : p.name ≡ s.policy
  pub kind : p.kind ≡ unwrap_or s.kind Permissive
  pub command : p.command ≡ unwrap_or s.command command.All
  pub roles : AreRolesBy s.grantees p.roles
  pub using : p.using ≡ s.using
  pub check : p.check ≡ s.check

-- that policy comes, and no other
pub record AddsPolicy (db : Database) (s : CreatePolicy) (e : Effect) : Type 0 where
  pub new : Policy
  pub by : IsPolicyBy s new
  pub policies : (p : Policy) → Among p e.database.policies ↔ (Among p db.policies ⊎ (p ≡ new))
  pub others : e.database ≡ record db { policies = e.database.policies }
  pub answer : e.answer ≡ answer.Done tag.CreatePolicy None None

abbrev pub create_policy_adds_it : Type 0
create_policy_adds_it = (db : Database) (pair : UserPair) (s : CreatePolicy) (e : Effect) → exec db pair (on_database.Defining (defining.CreatePolicy s)) ≡ Ok e → AddsPolicy db s e

-- ---- DROP POLICY

-- the policy of that name of that table goes, and no other
pub record DropsPolicy (db : Database) (s : DropPolicy) (e : Effect) : Type 0 where
  pub policies : (p : Policy) → Among p e.database.policies ↔ (Among p db.policies × ((p.table ≡ s.table) × (p.name ≡ s.policy) → ⊥))
  pub others : e.database ≡ record db { policies = e.database.policies }
  pub answer : e.answer ≡ answer.Done tag.DropPolicy None None

abbrev pub drop_policy_takes_it : Type 0
drop_policy_takes_it = (db : Database) (pair : UserPair) (s : DropPolicy) (e : Effect) → exec db pair (on_database.Defining (defining.DropPolicy s)) ≡ Ok e → DropsPolicy db s e

-- when the last permissive policy of a table is dropped, its guards let no row pass to any role that they concern
abbrev pub closed_by_the_last_drop : Type 0
closed_by_the_last_drop = (db : Database) (owner : UserNames) (s : DropPolicy) (e : Effect) → drop_policy db owner s ≡ Ok e →
    ((p : Policy) → Among p db.policies → bytes_eq p.table s.table ≡ true → is_permissive p ≡ true → bytes_eq p.name s.policy ≡ true) →
    (users : UserNames) (table : TableOf) (a : Action) (clause : Clauses) (row : Row) → table.name ≡ s.table →
    is_guarded e.database users.current table ≡ true → guard e.database users table a clause row ≡ Ok (Boolean false)
