-- Records without orphans.
use Rattle.std.proofs.Common.{ℕ, List, [], Ok, Err, Result}
use Rattle.std.proofs.lemmas.Bool.{false_from_ne_true}
use Rattle.store.specs.declared.fault.Fault.{Fault}
use Rattle.store.specs.declared.fault.Fault.TheVariants.{Memory, Device, Damaged}
use Rattle.store.specs.Records.{Records, has_prefix}
use Rattle.stored_database.specs.Definitions.{Definitions, ids_of}
use Rattle.stored_database.specs.Records.{Define, is_orphan}
use Rattle.stored_database.proofs.AllRecords.{none_there, of_where}
use Rattle.stored_database.proofs.Prefixes.{no_definitions}
use Rattle.stored_database.proofs.Spelled.{where_none}
use Rattle.catalogue_loading.specs.RecordChecks.{ChecksRecords, IsNoOrphan}
use Rattle.catalogue_loading.proofs.Orphan.{no_orphan}
use Rattle.catalogue.specs.declared.definitions.CatalogueParts.{CatalogueParts}
use Rattle.catalogue.specs.Catalogues.{definitions_of}
use Rattle.catalogue_loading.specs.Found.{Finds, FindsAs}
use Rattle.catalogue_loading.specs.Held.{AreHeldDefinitions, HasNoOrphan}
use Rattle.catalogue_loading.specs.Recorded.{ReadsDefinitions}
use Rattle.catalogue_loading.proofs.DefinitionLemmas.{items_stored, definitions_held, defined_held}

-- a check of all records finds whether one is an orphan
pub orphans_found : (ids : List ℕ) (records : Records) (result : Result (Unit {0}) Fault) → ChecksRecords (IsNoOrphan ids) records [] result → Finds (λ _. HasNoOrphan ids records) result
orphans_found ids records (Ok x) checked = no_orphan ids records checked
orphans_found ids records (Err Memory) checked = tt
orphans_found ids records (Err Device) checked = tt
orphans_found ids records (Err Damaged) checked = λ x none. checked (λ e among. none_there (is_orphan ids) records none e (of_where (has_prefix []) records e among))

-- where records define something, none is an orphan beside the tables that they hold
defined_without_orphans : (records : Records) (held d : Definitions) → AreHeldDefinitions records held → Define records d → HasNoOrphan (ids_of held.tables) records
defined_without_orphans records held d h defined =
    where_none (is_orphan (ids_of held.tables)) records
    (λ e among. false_from_ne_true (is_orphan (ids_of held.tables) e.0)
    (λ is. no_definitions records held.tables e (items_stored records held h).tables (definitions_held records held h).tables among is d defined))

-- ---- faults

-- what keeps the roles, memberships and tables from being read keeps the definitions
pub parts_fault : (records : Records) (fault : Fault) → FindsAs definitions_of (AreHeldDefinitions records) (let r : Result CatalogueParts Fault = Err fault in r) → ReadsDefinitions (Err fault) records
parts_fault records Memory found = tt
parts_fault records Device found = tt
parts_fault records Damaged found = λ d defined. found d (defined_held records d defined)

-- and so does an orphan
pub orphans_fault : (records : Records) (held : Definitions) (fault : Fault) → AreHeldDefinitions records held
    → Finds (λ (x : Unit {0}). HasNoOrphan (ids_of held.tables) records) (Err fault) → ReadsDefinitions (Err fault) records
orphans_fault records held Memory h found = tt
orphans_fault records held Device h found = tt
orphans_fault records held Damaged h found = λ d defined. found tt (defined_without_orphans records held d h defined)
