-- What is read of a source before its records are copied.
use Rattle.std.proofs.Common.{◌≡◌, List, Result, Ok, Err, ap, sym, ◌∙◌, subst}
use Rattle.storage_sizes.specs.declared.record_format.RecordFormat.{RecordFormat}
use Rattle.storage_sizes.specs.declared.record_format.RecordFormat.TheVariants.{V1, V2}
use Rattle.store.specs.declared.fault.Fault.{Fault}
use Rattle.store.specs.declared.fault.Fault.TheVariants.{Memory, Device, Damaged}
use Rattle.store.specs.Records.{Records, Changes}
use Rattle.store.specs.Store.{Contents}
use Rattle.abstract_database.specs.Database.{Database}
use Rattle.stored_database.specs.Definitions.{Definitions}
use Rattle.stored_database.specs.Records.{Shows}
use Rattle.stored_database.specs.BothRecordFormats.{in_record_format_2, Stands}
use Rattle.transactions.specs.Views.{applied_all}
use Rattle.catalogue_loading.specs.Found.{Finds}
use Rattle.recovery.specs.MigrationChanges.{AreMigrating, MigratesRecordsFrom}
use Rattle.recovery.specs.Openings.{AreOfDatabase}
use Rattle.copies.specs.DatabaseCopies.{IsRead}

-- records under the lists are the same records in record format 2
pub under_lists : (record_format : RecordFormat) (records : Records) (lists : List Changes) → AreMigrating record_format records lists → applied_all lists records ≡ in_record_format_2 record_format records
under_lists V1 records lists are = ap (λ (ls : List Changes). applied_all ls records) are.1 ∙ are.2
under_lists V2 records lists are = ap (λ (ls : List Changes). applied_all ls records) are

-- the lists are none where the records stand for no database
pub no_lists : (fault : Fault) (contents : Contents) (db : Database) → MigratesRecordsFrom contents.record_format (Err fault) contents.records → Stands contents db → fault ≡ Damaged → ⊥
no_lists Memory contents db none stands is = let bad : Memory ≡ Damaged = is in cc
no_lists Device contents db none stands is = let bad : Device ≡ Damaged = is in cc
no_lists Damaged contents db none stands is = none db stands

-- they are not found to stand for a database where the contents stand for none
pub none_there : (fault : Fault) (contents : Contents) (db : Database) (lists : List Changes) → AreMigrating contents.record_format contents.records lists
    → Finds (AreOfDatabase (applied_all lists contents.records)) (Err fault) → Stands contents db → fault ≡ Damaged → ⊥
none_there Memory contents db lists are finds stands is = let bad : Memory ≡ Damaged = is in cc
none_there Device contents db lists are finds stands is = let bad : Device ≡ Damaged = is in cc
none_there Damaged contents db lists are finds stands is =
    finds stands.0 (subst (λ (es : Records). AreOfDatabase es stands.0) (sym (under_lists contents.record_format contents.records lists are)) (db, stands.1))

-- they were found to
pub all_there : (contents : Contents) (d : Definitions) (lists : List Changes) → AreMigrating contents.record_format contents.records lists → AreOfDatabase (applied_all lists contents.records) d → IsRead contents lists
all_there contents d lists are found = (
  are,
  found.0,
  (d, subst (λ (es : Records). Shows es d found.0) (under_lists contents.record_format contents.records lists are) found.1),
)
