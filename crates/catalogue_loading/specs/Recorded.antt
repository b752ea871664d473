-- What is read of the definitions of a database.
use Rattle.std.specs.Prelude.{Result, Ok, Err}
use Rattle.store.specs.Records.{Records}
use Rattle.store.specs.declared.fault.Fault.{Fault}
use Rattle.store.specs.declared.fault.Fault.TheVariants.{Memory, Device, Damaged}
use Rattle.abstract_database.specs.Whole.{Each, IsInOrder, IsPolicyOf, IsWholeRole}
use Rattle.stored_database.specs.Definitions.{TableDefinition, Definitions, ids_of, database_of}
use Rattle.stored_database.specs.Items.{AreStored}
use Rattle.stored_database.specs.Records.{HoldDefinitions, Define}
use Rattle.stored_database.specs.Valid.{IsNumbered}
use Rattle.catalogue_loading.specs.Found.{Finds}
use Rattle.catalogue_loading.specs.Held.{HasNoOrphan}

-- each policy of the table is one of it, with conditions over its columns
abbrev pub HasPoliciesOfIt : TableDefinition → Type 0
HasPoliciesOfIt t = Each (IsPolicyOf t.definition) t.policies

-- The records, those of rows aside, are the spellings of these definitions and no others. Each item by itself is one that a
-- database may have; whether they are valid together is not said.
pub record AreRecorded (records : Records) (d : Definitions) : Type 0 where
  pub held : HoldDefinitions records d
  pub no_other : HasNoOrphan (ids_of d.tables) records
  pub stored : AreStored d
  pub order : IsInOrder (database_of d)
  pub roles : Each IsWholeRole d.roles
  pub numbered : Each IsNumbered d.tables
  pub policies : Each HasPoliciesOfIt d.tables

-- the definitions of which these are the records, or Damaged where the records define nothing
abbrev pub ReadsDefinitions : Result Definitions Fault → Records → Type 0
ReadsDefinitions (Ok d) records = AreRecorded records d
ReadsDefinitions (Err Memory) records = Unit {0}
ReadsDefinitions (Err Device) records = Unit {0}
ReadsDefinitions (Err Damaged) records = (d : Definitions) → Define records d → ⊥

-- the definitions that the records define, or Damaged where they define none
abbrev pub LoadsCatalogue : Result Definitions Fault → Records → Type 0
LoadsCatalogue result records = Finds (Define records) result
