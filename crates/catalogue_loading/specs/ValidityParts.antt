-- What the parts of whole definitions are, each by itself.
use Rattle.std.specs.Prelude.{◌≡◌, ◌<◌, ◌≤◌, true, List, length, None, IfSome}
use Rattle.std.specs.Str.{IsUtf8}
use Rattle.sql_types.specs.Name.{IsUtf8Name}
use Rattle.sql_ast.specs.declared.role.Role.{Role}
use Rattle.sql_ast.specs.declared.privilege.Action.TheVariants as action
use Rattle.sql_ast.specs.declared.privilege.Descriptor.{Descriptor}
use Rattle.sql_ast.specs.declared.policy.Policy.{Policy}
use Rattle.sql_ast.specs.declared.policy.PolicyClause.{PolicyClause}
use Rattle.sql_ast.specs.Layout.{IsLayout}
use Rattle.sql_ast.specs.Read.{HasClauses}
use Rattle.abstract_database.specs.Lists.{Among}
use Rattle.abstract_database.specs.Database.{TableOf}
use Rattle.abstract_database.specs.Privileges.{IsSupported, is_of_system, owner_descriptors}
use Rattle.abstract_database.specs.Whole.{Each, IsRoleOf, IsGrantorOf, IsGranteeOf, HasOwnerDescriptors, ConcernsRoles, max_tables}
use Rattle.stored_database.specs.Definitions.{TableDefinition}
use Rattle.stored_database.specs.Valid.{HaveOwnIds}
use Rattle.catalogue.specs.Policies.{HasConditions}
use Rattle.catalogue.specs.Tables.{HasOrderedParts, table_scope}

-- ---- numbers

-- the number is one of a table
pub record HasNumber (t : TableDefinition) : Type 0 where
  pub least : 1 ≤ t.id
  pub most : t.id ≤ max_tables

-- each table has a number, and no two have one
pub record AreNumbered (tables : List TableDefinition) : Type 0 where
  pub each : Each HasNumber tables
  pub own : HaveOwnIds tables

-- ---- privileges

-- on the table or one of its columns, which has no DELETE; by and to roles, and by the system only what it grants the owner
pub record IsGranted (all : List Role) (t : TableOf) (d : Descriptor) : Type 0 where
  pub column : IfSome d.column (λ index. index < length t.layout.columns)
  pub action : d.action ≡ action.Delete → d.column ≡ None
  pub grantor : IsGrantorOf all d.grantor
  pub grantee : IsGranteeOf all d.grantable d.grantee
  pub system : is_of_system d ≡ true → Among d (owner_descriptors t.name t.owner)

-- the descriptors of the table are granted, and the owner's four are there
pub record HasGranted (all : List Role) (t : TableDefinition) : Type 0 where
  pub descriptors : Each (IsGranted all t.definition) t.descriptors
  pub owners : HasOwnerDescriptors t.descriptors t.definition

-- and they are supported by each other
pub record HasWholePrivileges (all : List Role) (t : TableDefinition) : Type 0 where
  pub granted : HasGranted all t
  pub supported : Each (IsSupported t.descriptors) t.descriptors

-- ---- policies

abbrev pub HasUtf8 : PolicyClause → Type 0
HasUtf8 c = IsUtf8 c.text

-- the policy has a name, is for roles, and has the clauses that its command takes
pub record IsPolicy (all : List Role) (p : Policy) : Type 0 where
  pub name : IsUtf8Name p.name
  pub roles : ConcernsRoles all p.roles
  pub clauses : HasClauses p.command p.using p.check
  pub using : IfSome p.using HasUtf8
  pub check : IfSome p.check HasUtf8

-- ---- tables

-- all that makes a table whole beside its number
pub record IsWholeDefinition (all : List Role) (t : TableDefinition) : Type 0 where
  pub name : IsUtf8Name t.definition.name
  pub owner : IsRoleOf all t.definition.owner
  pub layout : IsLayout t.definition.layout
  pub order : HasOrderedParts t
  pub privileges : HasWholePrivileges all t
  pub policies : Each (IsPolicy all) t.policies
  pub conditions : Each (HasConditions (table_scope t.definition)) t.policies
