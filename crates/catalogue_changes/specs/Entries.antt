-- Items whose records have sizes that a store takes.
use Rattle.std.specs.Prelude.{◌≡◌, ◌⊎◌, ℕ, List}
use Rattle.std.specs.List.{AllByRecursion}
use Rattle.sql_types.specs.declared.state.Refusal.{Refusal}
use Rattle.sql_types.specs.declared.state.SqlState.TheVariants.{OutOfMemory}
use Rattle.sql_ast.specs.declared.privilege.Descriptor.{Descriptor}
use Rattle.sql_ast.specs.declared.policy.Policy.{Policy}
use Rattle.stored_database.specs.Definitions.{TableDefinition, Definitions}
use Rattle.stored_database.specs.Entries.{IsRecordSize}
use Rattle.stored_database.specs.RecordFormat.{table_record, descriptor_record, policy_record}
use Rattle.catalogue_changes.specs.Sizes.{FitsRecord, HasPlace}
pub use Rattle.entry_differences.specs.Additions.{Adds, HaveRecordSizes}

-- the privilege descriptor for the table of this number has a record that a store takes
pub record IsStorableDescriptor (id : ℕ) (d : Descriptor) : Type 0 where
  pub place : HasPlace d
  pub size : IsRecordSize (descriptor_record id d)

-- each privilege descriptor for these tables has one
abbrev pub AreStorableDescriptors : List TableDefinition → Type 0
AreStorableDescriptors tables = AllByRecursion (λ (t : TableDefinition). AllByRecursion (IsStorableDescriptor t.id) t.descriptors) tables

-- the policy of the table of this number has a record that a store takes
pub record IsStorable (id : ℕ) (p : Policy) : Type 0 where
  pub counted : FitsRecord p
  pub size : IsRecordSize (policy_record id p)

-- each policy of these tables has one
abbrev pub AreStorable : List TableDefinition → Type 0
AreStorable tables = AllByRecursion (λ (t : TableDefinition). AllByRecursion (IsStorable t.id) t.policies) tables

-- the table has one, and so has each of its privilege descriptors and policies
pub record IsStorableTable (t : TableDefinition) : Type 0 where
  pub table : IsRecordSize (table_record t)
  pub descriptors : AllByRecursion (IsStorableDescriptor t.id) t.descriptors
  pub policies : AllByRecursion (IsStorable t.id) t.policies

-- each of these tables has all of these
abbrev pub AreStorableTables : List TableDefinition → Type 0
AreStorableTables tables = AllByRecursion IsStorableTable tables

-- memory was refused, or a store does not take a record of one of the tables: tables of a whole database are not so
abbrev pub IsNotStored : Definitions → TableDefinition → Refusal → Type 0
IsNotStored d t refusal = (refusal.0 ≡ OutOfMemory) ⊎ (AreStorableTables d.tables → IsStorableTable t → ⊥)
