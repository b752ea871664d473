-- Statements that define something, as changes of definitions.
use Rattle.std.specs.Prelude.{◌≡◌, ℕ, false, List, [], filter, fold, find, bytes_eq, Some, Result, Ok, Err}
use Rattle.sql_types.specs.declared.state.SqlState.{SqlState}
use Rattle.sql_ast.specs.declared.role.Role.{Role}
use Rattle.sql_ast.specs.declared.privilege.Descriptor.{Descriptor}
use Rattle.sql_ast.specs.declared.policy.Policy.{Policy}
use Rattle.sql_ast.specs.declared.statement.CreateRole.{CreateRole}
use Rattle.sql_ast.specs.declared.statement.RowSecurityChange.{RowSecurityChange}
use Rattle.sql_ast.specs.Layout.{Layout}
use Rattle.abstract_database.specs.Lists.{TheName, put, the_new, drop_where}
use Rattle.abstract_database.specs.Database.{Database, policy_cmp}
use Rattle.abstract_database.specs.Definitions.{with_attribute, no_attributes, row_security_changed}
use Rattle.abstract_database.specs.Privileges.{owner_descriptors}
use Rattle.abstract_database.specs.Statements.{Effect}
use Rattle.stored_database.specs.Definitions.{TableDefinition, Definitions}
use Rattle.catalogue.specs.Lookups.{is_definition_named}
use Rattle.catalogue.specs.declared.change.SchemaChange.{SchemaChange}
use Rattle.catalogue.specs.declared.change.SchemaChange.TheVariants as change
use Rattle.catalogue_changes.specs.SchemaChanges.{ChangeFits, IsChanged}

-- the definitions take the change, and it leads from the one database to the other
pub record Makes (c : SchemaChange) (d : Definitions) (db after : Database) : Type 0 where
  pub fits : ChangeFits c d
  pub is : IsChanged c db after

-- a statement with this result, if it is not refused, makes the change
abbrev pub IsDoneBy : SchemaChange → Definitions → Database → Result Effect SqlState → Type 0
IsDoneBy c d db result = (e : Effect) → result ≡ Ok e → Makes c d db e.database

-- the table of this name
abbrev pub IsTableOf : Definitions → TheName → TableDefinition → Type 0
IsTableOf d name t = find (is_definition_named name) d.tables ≡ Some t

-- ---- over a table alone

-- the database with the descriptors of this table alone
abbrev pub alone : TableDefinition → Database → Database
alone t db = record db { descriptors = t.descriptors }

-- a statement with this result answers what this effect does, and puts the table with the descriptors that it leaves
pub record IsDoneAlike (t : TableDefinition) (d : Definitions) (db : Database) (result : Result Effect SqlState) (of_table : Effect) : Type 0 where
  pub effect : Effect
  pub done : result ≡ Ok effect
  pub answer : effect.answer ≡ of_table.answer
  pub makes : Makes (change.PutTable (record t { descriptors = of_table.database.descriptors })) d db effect.database

-- a statement with the one result has the other one over the descriptors of its table alone
abbrev pub AgreesAlone : TableDefinition → Definitions → Database → Result Effect SqlState → Result Effect SqlState → Type 0
AgreesAlone t d db result (Ok of_table) = IsDoneAlike t d db result of_table
AgreesAlone t d db result (Err code) = result ≡ Err code

-- ---- what is put

-- the role of CREATE ROLE
abbrev pub role_by : CreateRole → Role
role_by s = record { name = s.role; attributes = fold with_attribute no_attributes s.attributes }

-- a new table of the owner's, with the descriptors that the system grants the owner
abbrev pub new_table : ℕ → TheName → TheName → Layout → TableDefinition
new_table id name owner layout = record {
  id = id;
  definition = record { name = name; owner = owner; layout = layout; row_security = false; forced = false };
  descriptors = owner_descriptors name owner;
  policies = [];
}

-- the table with the flag that ALTER TABLE sets or clears
abbrev pub with_flag : RowSecurityChange → TableDefinition → TableDefinition
with_flag change t = record t { definition = row_security_changed change t.definition }

-- the table with one policy more, among the others by name
abbrev pub with_one_policy : Policy → TableDefinition → TableDefinition
with_one_policy p t = record t { policies = put policy_cmp the_new p t.policies }

-- the table without the policy of this name
abbrev pub without_one_policy : TheName → TableDefinition → TableDefinition
without_one_policy name t = record t { policies = drop_where (λ (p : Policy). bytes_eq p.name name) t.policies }

-- the table with those of the descriptors that are for it
abbrev pub with_its_descriptors : List Descriptor → TableDefinition → TableDefinition
with_its_descriptors all t = record t { descriptors = filter (λ (e : Descriptor). bytes_eq e.table t.definition.name) all }
