-- What is gathered of a table, in a database of these definitions.
use Rattle.std.specs.Prelude.{◌≡◌, List, map, filter}
use Rattle.std.specs.List.{list_any}
use Rattle.sql_ast.specs.declared.role.Role.{Role}
use Rattle.sql_ast.specs.declared.role.Membership.{Membership}
use Rattle.sql_ast.specs.declared.privilege.Action.{Action}
use Rattle.sql_ast.specs.declared.privilege.Action.TheVariants as action
use Rattle.abstract_database.specs.Lists.{TheName}
use Rattle.abstract_database.specs.Database.{Database, TableOf}
use Rattle.abstract_database.specs.Roles.{is_in}
use Rattle.abstract_database.specs.Privileges.{on_table, has_privilege, has_on_some_column}
use Rattle.abstract_database.specs.Guards.{is_guarded}
use Rattle.abstract_database.specs.Whole.{Each}
use Rattle.descriptions.specs.declared.memberships.MembershipDescription.{MembershipDescription}
use Rattle.descriptions.specs.Descriptions.{AreItsRoles, LeadsTo}
use Rattle.table_access.specs.declared.action.HeldGrant.{HeldGrant}
use Rattle.table_access.specs.declared.action.ActionAccess.{ActionAccess}
use Rattle.table_access.specs.declared.role.RoleAccess.{RoleAccess}
use Rattle.table_access.specs.declared.acting.SettableRole.{SettableRole}
use Rattle.table_access.specs.declared.acting.SettableRoles.{SettableRoles}
use Rattle.table_access.specs.declared.table.AccessToTable.{AccessToTable}
use Rattle.table_access.specs.Having.{columns_with, grants_for, policies_over, ways, ways_to, is_told_apart, is_shown_as}

-- a grant with the memberships by which it reaches the role
abbrev pub ReachesBy : List Membership → TheName → HeldGrant → Type 0
ReachesBy ms role g = map (λ m. m.now) g.memberships.items ≡ ways_to ms role g.descriptor.now.grantee

-- what a role has of a table for an action
pub record HasOfAction (db : Database) (role : TheName) (t : TableOf) (a : Action) (x : ActionAccess) : Type 0 where
  pub is_allowed : x.is_allowed ≡ has_on_some_column db role t.name a
  pub on_table : x.on_table ≡ has_privilege db role t.name (on_table a)
  pub columns : x.columns.items ≡ columns_with db role t a
  pub grants : map (λ g. g.descriptor.now) x.grants.items ≡ grants_for db role t a
  pub memberships : Each (ReachesBy db.memberships role) x.grants.items
  pub policies : map (λ p. p.now) x.policies.items ≡ policies_over db role t a
  pub names_user : x.names_user ≡ is_told_apart db role t a

-- what a role has of a table by itself
pub record HasOfTable (db : Database) (t : TableOf) (x : RoleAccess) : Type 0 where
  pub roles : AreItsRoles db.memberships x.role.now.name x.roles
  pub is_in_owner : x.is_in_owner ≡ is_in db.memberships x.role.now.name t.owner
  pub is_guarded : x.is_guarded ≡ is_guarded db x.role.now.name t
  pub select : HasOfAction db x.role.now.name t action.Select x.select
  pub insert : HasOfAction db x.role.now.name t action.Insert x.insert
  pub update : HasOfAction db x.role.now.name t action.Update x.update
  pub delete : HasOfAction db x.role.now.name t action.Delete x.delete

-- a role that it may set, by these memberships
abbrev pub IsActedAs : List Membership → TheName → SettableRole → Type 0
IsActedAs ms role x = map (λ m. m.now) x.memberships.items ≡ ways ms role x.role.now.name

-- the roles as which a role is shown, in order
pub record HasShownRoles (db : Database) (t : TableOf) (x : SettableRoles) : Type 0 where
  pub shown : map (λ y. y.role.now) x.others.items ≡ filter (λ s. is_shown_as db t x.role.now.name s.name) db.roles
  pub memberships : Each (IsActedAs db.memberships x.role.now.name) x.others.items

-- each role by itself, and as others
pub record IsAccessTo (db : Database) (t : TableOf) (x : AccessToTable) : Type 0 where
  pub roles : map (λ r. r.role.now) x.roles.items ≡ db.roles
  pub own : Each (HasOfTable db t) x.roles.items
  pub acting : map (λ r. r.role.now) x.acting.items ≡ db.roles
  pub others : Each (HasShownRoles db t) x.acting.items

-- ---- on the way

-- the roles beside a role are those that it is in
abbrev pub KnowsItsRoles : List Membership → RoleAccess → Type 0
KnowsItsRoles ms x = AreItsRoles ms x.role.now.name x.roles

-- these are all memberships, each with the roles that it leads to
pub record AreAllOf (ms : List Membership) (xs : List MembershipDescription) : Type 0 where
  pub all : map (λ x. x.membership.now) xs ≡ ms
  pub leads_to : Each (LeadsTo ms) xs
