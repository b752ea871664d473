-- What each database is, whatever its sessions did: a new one is, and each statement that a text may be read as keeps it.
use Rattle.std.specs.Prelude.{◌≡◌, ◌<◌, ◌≤◌, ℕ, Bool, true, false, List, [], ◌∷◌, ◌++◌, flat_map, option_to_list, length, Some, None, IfSome, Ok}
use Rattle.std.specs.List.{list_any}
use Rattle.sql_types.specs.Name.{IsUtf8Name}
use Rattle.sql_types.specs.Row.{Row}
use Rattle.sql_ast.specs.declared.columns.Column.{Column}
use Rattle.sql_ast.specs.declared.columns.ColumnType.TheVariants.{Boolean}
use Rattle.sql_ast.specs.declared.role.Role.{Role}
use Rattle.sql_ast.specs.declared.role.Membership.{Membership}
use Rattle.sql_ast.specs.declared.privilege.Action.TheVariants as action
use Rattle.sql_ast.specs.declared.privilege.Grantor.{Grantor}
use Rattle.sql_ast.specs.declared.privilege.Grantor.TheVariants as grantor
use Rattle.sql_ast.specs.declared.privilege.Grantee.{Grantee}
use Rattle.sql_ast.specs.declared.privilege.Grantee.TheVariants as grantee
use Rattle.sql_ast.specs.declared.privilege.Descriptor.{Descriptor}
use Rattle.sql_ast.specs.declared.policy.Policy.{Policy}
use Rattle.sql_ast.specs.declared.policy.PolicyClause.{PolicyClause}
use Rattle.sql_ast.specs.declared.policy.PolicyRoles.{PolicyRoles}
use Rattle.sql_ast.specs.declared.policy.PolicyRoles.TheVariants as roles
use Rattle.sql_ast.specs.Layout.{Layout, IsLayout}
use Rattle.sql_ast.specs.Rows.{row_cmp, max_value_length}
use Rattle.sql_ast.specs.Fits.{FitsTable}
use Rattle.sql_ast.specs.Read.{IsReadClause, HasClauses}
use Rattle.expressions.specs.Meaning.{UserNames}
use Rattle.abstract_database.specs.Lists.{TheName, name_cmp, Among, Rising}
use Rattle.abstract_database.specs.Database.{TableOf, Table, Database, is_role_named, role_cmp, membership_cmp, table_cmp, descriptor_cmp, policy_cmp}
use Rattle.abstract_database.specs.Roles.{IsIn}
use Rattle.abstract_database.specs.Privileges.{IsSupported, is_of_system, owner_descriptors}
use Rattle.expressions.specs.Parts.{check_type}
use Rattle.abstract_database.specs.Sizes.{policy_size}

-- ---- lists

-- each element of the list is as P says
abbrev pub Each : {X : Type 0} → (X → Type 0) → List X → Type 0
Each {X} P xs = (x : X) → Among x xs → P x

-- some element of the list is as P says
abbrev pub OneOf : {X : Type 0} → (X → Type 0) → List X → Type 0
OneOf {X} P xs = (x : X) × Among x xs × P x

-- each list of the database is in its order, without repeats
pub record IsInOrder (db : Database) : Type 0 where
  pub roles : Rising role_cmp db.roles
  pub memberships : Rising membership_cmp db.memberships
  pub tables : Rising table_cmp db.tables
  pub descriptors : Rising descriptor_cmp db.descriptors
  pub policies : Rising policy_cmp db.policies

-- ---- roles

-- a role has this name
abbrev pub IsRoleOf : List Role → TheName → Type 0
IsRoleOf all name = list_any (is_role_named name) all ≡ true

abbrev pub IsWholeRole : Role → Type 0
IsWholeRole role = IsUtf8Name role.name

-- both are roles, and the one is not in the other: so no chain of memberships is a cycle
pub record IsWholeMembership (all : List Role) (memberships : List Membership) (m : Membership) : Type 0 where
  pub role : IsRoleOf all m.role
  pub member : IsRoleOf all m.member
  pub no_cycle : IsIn memberships m.role m.member → ⊥

-- ---- tables

pub record IsWholeTable (all : List Role) (t : TableOf) : Type 0 where
  pub name : IsUtf8Name t.name
  pub owner : IsRoleOf all t.owner
  pub layout : IsLayout t.layout
  pub columns : Each (λ (c : Column). IsUtf8Name c.name) t.layout.columns

-- rows that the table may hold, in the order of their keys, no two with one key
pub record AreWholeRows (layout : Layout) (rows : List Row) : Type 0 where
  pub fit : Each (FitsTable layout) rows
  pub order : Rising (row_cmp layout.key) rows

-- the most tables
abbrev pub max_tables : ℕ
max_tables = 1024

-- ---- privileges

-- the system, or a role
abbrev pub IsGrantorOf : List Role → Grantor → Type 0
IsGrantorOf all grantor.System = Unit {0}
IsGrantorOf all (grantor.Role name) = IsRoleOf all name

-- a role, or PUBLIC, which holds no grant option
abbrev pub IsGranteeOf : List Role → Bool → Grantee → Type 0
IsGranteeOf all grantable grantee.Public = grantable ≡ false
IsGranteeOf all grantable (grantee.Role name) = IsRoleOf all name

pub record IsWholeDescriptor (all : List Role) (descriptors : List Descriptor) (d : Descriptor) : Type 0 where
  pub grantor : IsGrantorOf all d.grantor
  pub grantee : IsGranteeOf all d.grantable d.grantee
  pub supported : IsSupported descriptors d

-- a descriptor for this table, or for one of its columns, which has no DELETE: the system's are the owner's four
pub record IsDescriptorOf (t : TableOf) (d : Descriptor) : Type 0 where
  pub table : d.table ≡ t.name
  pub column : IfSome d.column (λ index. index < length t.layout.columns)
  pub action : d.action ≡ action.Delete → d.column ≡ None
  pub system : is_of_system d ≡ true → Among d (owner_descriptors t.name t.owner)

-- the owner of the table has the four from the system
abbrev pub HasOwnerDescriptors : List Descriptor → TableOf → Type 0
HasOwnerDescriptors descriptors t = Each (λ (d : Descriptor). Among d descriptors) (owner_descriptors t.name t.owner)

-- ---- policies

-- the most roles of a policy
abbrev pub max_policy_roles : ℕ
max_policy_roles = 255

-- names of roles, in rising order
pub record ArePolicyRoles (all : List Role) (names : List TheName) : Type 0 where
  pub some : 0 < length names
  pub few : length names ≤ max_policy_roles
  pub known : Each (IsRoleOf all) names
  pub rising : Rising name_cmp names

abbrev pub ConcernsRoles : List Role → PolicyRoles → Type 0
ConcernsRoles all roles.Public = Unit {0}
ConcernsRoles all (roles.Only names) = ArePolicyRoles all names

pub record IsWholePolicy (all : List Role) (p : Policy) : Type 0 where
  pub name : IsUtf8Name p.name
  pub roles : ConcernsRoles all p.roles
  pub using : IfSome p.using IsReadClause
  pub check : IfSome p.check IsReadClause
  pub clauses : HasClauses p.command p.using p.check
  pub size : policy_size p ≤ max_value_length

-- a condition over the columns of the table
abbrev pub IsConditionOf : TableOf → PolicyClause → Type 0
IsConditionOf t c = check_type (record { scope = record { name = t.name; columns = t.layout.columns } ∷ []; term = c.expression; expected = Some Boolean }) ≡ Ok tt

-- a policy of this table
pub record IsPolicyOf (t : TableOf) (p : Policy) : Type 0 where
  pub table : p.table ≡ t.name
  pub using : IfSome p.using (IsConditionOf t)
  pub check : IfSome p.check (IsConditionOf t)

-- ---- databases

pub record HasWholeRoles (db : Database) : Type 0 where
  pub roles : Each IsWholeRole db.roles
  pub memberships : Each (IsWholeMembership db.roles db.memberships) db.memberships

pub record HasWholeTables (db : Database) : Type 0 where
  pub tables : Each (λ (t : Table). IsWholeTable db.roles t.definition) db.tables
  pub few : length db.tables ≤ max_tables

pub record HasWholeDescriptors (db : Database) : Type 0 where
  pub descriptors : Each (IsWholeDescriptor db.roles db.descriptors) db.descriptors
  pub for_tables : Each (λ (d : Descriptor). OneOf (λ (t : Table). IsDescriptorOf t.definition d) db.tables) db.descriptors
  pub owners : Each (λ (t : Table). HasOwnerDescriptors db.descriptors t.definition) db.tables

pub record HasWholePolicies (db : Database) : Type 0 where
  pub policies : Each (IsWholePolicy db.roles) db.policies
  pub of_tables : Each (λ (p : Policy). OneOf (λ (t : Table). IsPolicyOf t.definition p) db.tables) db.policies

-- everything but the rows
pub record HasWholeDefinitions (db : Database) : Type 0 where
  pub order : IsInOrder db
  pub roles : HasWholeRoles db
  pub tables : HasWholeTables db
  pub descriptors : HasWholeDescriptors db
  pub policies : HasWholePolicies db

abbrev pub HasWholeRows : Database → Type 0
HasWholeRows db = Each (λ (t : Table). AreWholeRows t.definition.layout t.rows) db.tables

pub record IsWhole (db : Database) : Type 0 where
  pub definitions : HasWholeDefinitions db
  pub rows : HasWholeRows db

-- the conditions of the policies, whose texts are to spell their expressions
abbrev pub clauses_of : Database → List PolicyClause
clauses_of db = flat_map (λ p. option_to_list p.using ++ option_to_list p.check) db.policies

-- ---- who acts

-- the current role and the login role of a statement are roles
pub record AreRolesOf (db : Database) (users : UserNames) : Type 0 where
  pub current : IsRoleOf db.roles users.current
  pub session : IsRoleOf db.roles users.session
