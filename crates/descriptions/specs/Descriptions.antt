-- What a description says of a role and of a table, in each database of the definitions.
use Rattle.std.specs.Prelude.{◌≡◌, Bool, true, ◌&&◌, List, map, find, filter, bytes_eq, Some}
use Rattle.std.specs.Option.{option_map}
use Rattle.sql_ast.specs.declared.privilege.Action.TheVariants as action
use Rattle.sql_ast.specs.declared.privilege.Descriptor.{Descriptor}
use Rattle.sql_ast.specs.declared.privilege.Grantee.{Grantee}
use Rattle.sql_ast.specs.declared.privilege.Grantee.TheVariants as grantee
use Rattle.sql_ast.specs.declared.role.Membership.{Membership}
use Rattle.abstract_database.specs.Lists.{TheName, Among, has_name}
use Rattle.abstract_database.specs.Database.{Database, TableOf, is_role_named}
use Rattle.abstract_database.specs.Roles.{is_in, is_of_member}
use Rattle.abstract_database.specs.Privileges.{reaches, has_privilege, acting_grantor}
use Rattle.abstract_database.specs.Guards.{is_guarded, applicable}
use Rattle.abstract_database.specs.Whole.{Each}
use Rattle.grant_graph.specs.Keys.{now_of}
use Rattle.stored_database.specs.Definitions.{TableDefinition, Definitions}
use Rattle.stored_database.specs.Valid.{Describes}
use Rattle.descriptions.specs.declared.memberships.MembershipDescription.{MembershipDescription}
use Rattle.descriptions.specs.declared.role.RoleDescription.{RoleDescription}
use Rattle.descriptions.specs.declared.access.PoliciesByAction.{PoliciesByAction}
use Rattle.descriptions.specs.declared.access.TableAccess.{TableAccess}
use Rattle.descriptions.specs.declared.access.PrivilegeDescription.{PrivilegeDescription}

-- it holds in each database of these definitions, of which the table is one
abbrev pub InEach : Definitions → TableDefinition → (Database → Type 0) → Type 0
InEach d t holds = (db : Database) → Describes d db → Among t d.tables → holds db

-- these are the roles that the role is in
abbrev pub AreItsRoles : List Membership → TheName → List TheName → Type 0
AreItsRoles memberships role roles = (s : TheName) → has_name s roles ≡ is_in memberships role s

-- the roles that a membership leads to are those that its role is in
abbrev pub LeadsTo : List Membership → MembershipDescription → Type 0
LeadsTo memberships m = AreItsRoles memberships m.membership.now.role m.leads_to

-- the descriptors for a table that give a role something: those to PUBLIC, and those to a role that it is in
abbrev pub given_to : Database → TheName → TheName → List Descriptor
given_to db role table = filter (λ d. bytes_eq d.table table && reaches db.memberships role d.grantee) db.descriptors

-- the grantee is PUBLIC, or one of these roles
abbrev pub is_one : List TheName → Grantee → Bool
is_one roles grantee.Public = true
is_one roles (grantee.Role name) = has_name name roles

-- ---- what is gathered

-- a role of the definitions, the roles that it is in, and its memberships in order, with what each leads to
pub record DescribesRole (d : Definitions) (name : TheName) (r : RoleDescription) : Type 0 where
  pub role : find (is_role_named name) d.roles ≡ Some r.role.now
  pub roles : AreItsRoles d.memberships name r.roles
  pub memberships : map (λ m. m.membership.now) r.memberships.items ≡ filter (is_of_member name) d.memberships
  pub leads_to : Each (LeadsTo d.memberships) r.memberships.items

-- the policies that apply to each action of a role
pub record ApplyTo (db : Database) (role : TheName) (t : TableOf) (p : PoliciesByAction) : Type 0 where
  pub select : map (λ q. q.now) p.select.items ≡ applicable db role t action.Select
  pub insert : map (λ q. q.now) p.insert.items ≡ applicable db role t action.Insert
  pub update : map (λ q. q.now) p.update.items ≡ applicable db role t action.Update
  pub delete : map (λ q. q.now) p.delete.items ≡ applicable db role t action.Delete

-- what a role has of a table
pub record DescribesAccess (db : Database) (role : TheName) (t : TableOf) (a : TableAccess) : Type 0 where
  pub given : map (λ e. e.now) a.given.items ≡ given_to db role t.name
  pub is_guarded : a.is_guarded ≡ is_guarded db role t
  pub policies : ApplyTo db role t a.policies

-- whether a role has a privilege, and by whom it grants it on
pub record DescribesPrivilege (db : Database) (role : TheName) (t : TableOf) (p : PrivilegeDescription) : Type 0 where
  pub is_held : p.is_held ≡ has_privilege db role t.name p.privilege
  pub grants_as : option_map now_of p.grants_as ≡ acting_grantor db role t p.privilege
