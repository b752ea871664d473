-- What an item of a record is by itself, whatever the other records are.
use Rattle.std.specs.Prelude.{◌≡◌, ◌<◌, ◌≤◌, length, IfSome}
use Rattle.sql_types.specs.Name.{IsUtf8Name}
use Rattle.sql_ast.specs.declared.columns.Column.{Column}
use Rattle.sql_ast.specs.declared.role.Membership.{Membership}
use Rattle.sql_ast.specs.declared.privilege.Grantor.{Grantor}
use Rattle.sql_ast.specs.declared.privilege.Grantor.TheVariants as grantor
use Rattle.sql_ast.specs.declared.privilege.Descriptor.{Descriptor}
use Rattle.sql_ast.specs.declared.policy.Policy.{Policy}
use Rattle.sql_ast.specs.declared.policy.PolicyRoles.{PolicyRoles}
use Rattle.sql_ast.specs.declared.policy.PolicyRoles.TheVariants as roles
use Rattle.sql_ast.specs.Read.{IsReadGrantee}
use Rattle.sql_ast.specs.Rows.{max_value_length}
use Rattle.abstract_database.specs.Lists.{TheName}
use Rattle.abstract_database.specs.Sizes.{policy_size}
use Rattle.abstract_database.specs.Whole.{Each, max_tables}
use Rattle.expr_parser.specs.Written.{IsAsWritten}
use Rattle.stored_database.specs.Definitions.{TableDefinition, Definitions}

-- both are names
pub record IsStoredMembership (m : Membership) : Type 0 where
  pub role : IsUtf8Name m.role
  pub member : IsUtf8Name m.member

-- the number is one of a table, and the owner and the columns have names
pub record IsStoredTable (t : TableDefinition) : Type 0 where
  pub id : t.id ≤ max_tables
  pub owner : IsUtf8Name t.definition.owner
  pub columns : Each (λ (c : Column). IsUtf8Name c.name) t.definition.layout.columns

-- the system, or a role by its name
abbrev pub IsStoredGrantor : Grantor → Type 0
IsStoredGrantor grantor.System = Unit {0}
IsStoredGrantor (grantor.Role name) = IsUtf8Name name

-- a descriptor for the table of this name, or for a column of it, which a place tells: there are at most 16
pub record IsStoredDescriptor (table_name : TheName) (d : Descriptor) : Type 0 where
  pub table : d.table ≡ table_name
  pub column : IfSome d.column (λ index. index < 16)
  pub grantor : IsStoredGrantor d.grantor
  pub grantee : IsReadGrantee d.grantee

-- PUBLIC, or one or more roles by their names
abbrev pub AreStoredRoles : PolicyRoles → Type 0
AreStoredRoles roles.Public = Unit {0}
AreStoredRoles (roles.Only names) = (0 < length names) × Each IsUtf8Name names

-- a policy of the table of this name
pub record IsStoredPolicy (table_name : TheName) (p : Policy) : Type 0 where
  pub table : p.table ≡ table_name
  pub roles : AreStoredRoles p.roles
  pub using : IfSome p.using IsAsWritten
  pub check : IfSome p.check IsAsWritten
  pub size : policy_size p ≤ max_value_length

-- what a table has beside its definition
pub record HasStoredItems (t : TableDefinition) : Type 0 where
  pub descriptors : Each (IsStoredDescriptor t.definition.name) t.descriptors
  pub policies : Each (IsStoredPolicy t.definition.name) t.policies

-- each item of the definitions by itself
pub record AreStored (d : Definitions) : Type 0 where
  pub memberships : Each IsStoredMembership d.memberships
  pub tables : Each IsStoredTable d.tables
  pub items : Each HasStoredItems d.tables
