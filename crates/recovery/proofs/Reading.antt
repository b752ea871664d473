-- What is read of a store before anything is committed.
use Rattle.std.proofs.Common.{◌≡◌, List, Err, ap, sym, ◌∙◌, subst}
use Rattle.storage_sizes.specs.declared.record_format.RecordFormat.{RecordFormat}
use Rattle.storage_sizes.specs.declared.record_format.RecordFormat.TheVariants.{V1, V2}
use Rattle.store.specs.declared.fault.Fault.{Fault}
use Rattle.store.specs.declared.fault.Fault.TheVariants.{Memory, Device, Damaged}
use Rattle.store.specs.Records.{Records, Changes}
use Rattle.store.specs.Store.{Contents}
use Rattle.stored_database.specs.BothRecordFormats.{in_record_format_2}
use Rattle.transactions.specs.Views.{applied_all}
use Rattle.catalogue_loading.specs.Found.{Finds}
use Rattle.recovery.specs.MigrationChanges.{AreMigrating, MigratesRecordsFrom}
use Rattle.recovery.specs.Openings.{AreOfDatabase}
use Rattle.recovery.specs.Read.{AreRead}

-- records under the lists are the same records in record format 2
pub under_lists : (record_format : RecordFormat) (records : Records) (lists : List Changes) → AreMigrating record_format records lists → applied_all lists records ≡ in_record_format_2 record_format records
under_lists V1 records lists are = ap (λ (ls : List Changes). applied_all ls records) are.1 ∙ are.2
under_lists V2 records lists are = ap (λ (ls : List Changes). applied_all ls records) are

-- they are not found to stand for a database where the contents stand for none
pub none_there : (fault : Fault) (contents : Contents) (lists : List Changes) → AreMigrating contents.record_format contents.records lists → Finds (AreOfDatabase (applied_all lists contents.records)) (Err fault)
    → AreRead contents (Err fault)
none_there Memory contents lists are finds = tt
none_there Device contents lists are finds = tt
none_there Damaged contents lists are finds = λ db stands.
    finds stands.0 (subst (λ (es : Records). AreOfDatabase es stands.0) (sym (under_lists contents.record_format contents.records lists are)) (db, stands.1))

-- the lists are none where the records stand for no database
pub no_lists : (fault : Fault) (contents : Contents) → MigratesRecordsFrom contents.record_format (Err fault) contents.records → AreRead contents (Err fault)
no_lists Memory contents none = tt
no_lists Device contents none = tt
no_lists Damaged contents none = none
