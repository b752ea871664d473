-- What reading the definitions of a database comes to, by what opening its store and reading that come to.
use Rattle.std.proofs.Common.{List, Result, Ok, Err, inl, sym, subst}
use Rattle.sector_device.specs.Timeline.{IsPresent}
use Rattle.sector_device.specs.Device.{DeviceState, timeline}
use Rattle.sector_device.specs.declared.device.Device.{Ghosts}
use Rattle.store.specs.declared.fault.Fault.{Fault}
use Rattle.store.specs.declared.fault.Fault.TheVariants.{Memory, Device, Damaged}
use Rattle.store.specs.Readers.{HasFaultCause}
use Rattle.store.specs.Records.{Records, Changes}
use Rattle.store.specs.Store.{Contents, stored, KeepsHistory}
use Rattle.cow_pages.specs.declared.open.OpenFault.{OpenFault as PagesFault}
use Rattle.journal_store.specs.declared.device_stores.DeviceStore.{DeviceStore}
use Rattle.journal_store.specs.DeviceOpening.{IsOpened, CannotOpen}
use Rattle.journal_store.specs.DeviceReads.{OnlyLooksInto}
use Rattle.journal_store.specs.DeviceStores.{state_under, store_state}
use Rattle.journal_store.proofs.Since.{history_since, content_since}
use Rattle.stored_database.specs.Definitions.{Definitions}
use Rattle.transactions.specs.Views.{applied_all}
use Rattle.catalogue_loading.specs.Found.{Finds}
use Rattle.recovery.specs.MigrationChanges.{AreMigrating, MigratesRecordsFrom}
use Rattle.recovery.specs.declared.fault.OpeningFault.TheVariants as opening
use Rattle.recovery.specs.Openings.{AreOfDatabase}
use Rattle.recovery.proofs.Reading.{under_lists}
use Rattle.databases.specs.declared.fault.DatabaseFault.TheVariants as database
use Rattle.databases.specs.Databases.{IsUnwritten}
use Rattle.databases.proofs.Opening.{device_cause}
use Rattle.databases.proofs.DeviceOpening.{refused_pages}
use Rattle.cli.specs.Reading.{AreDefinitionsOf, HasFault, ReadsOn}

-- ---- what was read of a store

-- there are no lists where the contents stand for no database
pub no_lists : (fault : Fault) (contents : Contents) → MigratesRecordsFrom contents.record_format (Err fault) contents.records → AreDefinitionsOf contents (Err fault)
no_lists Memory contents none = tt
no_lists Device contents none = tt
no_lists Damaged contents none = none

-- what is found under the lists are the definitions of the contents
pub found_under : (result : Result Definitions Fault) (contents : Contents) (lists : List Changes) → AreMigrating contents.record_format contents.records lists
    → Finds (AreOfDatabase (applied_all lists contents.records)) result → AreDefinitionsOf contents result
found_under (Ok d) contents lists are finds = subst (λ (es : Records). AreOfDatabase es d) (under_lists contents.record_format contents.records lists are) finds
found_under (Err Memory) contents lists are finds = tt
found_under (Err Device) contents lists are finds = tt
found_under (Err Damaged) contents lists are finds = λ db stands.
    finds stands.0 (subst (λ (es : Records). AreOfDatabase es stands.0) (sym (under_lists contents.record_format contents.records lists are)) (db, stands.1))

-- ---- a device that was refused for its pages

pub refused_unread : (d e : DeviceState) (fault : PagesFault) → CannotOpen d fault e → d.faithful → ReadsOn d (Err (database.Pages fault)) e
refused_unread d e fault cannot faithful =
    let refused = refused_pages d e fault cannot faithful in
    record {
      read = record { of_reading = tt; stands = refused.stands; failed = refused.failed };
      unwritten = record { history = cannot.history; content = cannot.content faithful };
    }

-- ---- a store that was opened and only read

module _ {D : Type 0} {g : Ghosts D} (present : (device : D) → (g.state device).faithful → IsPresent (timeline (g.state device))) (d : DeviceState) (s t : DeviceStore D g) (opened : IsOpened d s) (faithful : d.faithful)
    (nothing : OnlyLooksInto s t) where
  unwritten : IsUnwritten d (state_under t)
  unwritten = record { history = history_since d s t opened nothing; content = content_since d s t opened nothing present faithful }

  pub read_definitions_on : (definitions : Definitions) → AreDefinitionsOf (stored (store_state s)) (Ok definitions) → ReadsOn d (Ok definitions) (state_under t)
  read_definitions_on definitions are = record {
    read = record {
      database = are.0;
      holds = record { contents = stored (store_state s); has = (opened.holds faithful).contents; stands = (definitions, are.1) };
      shows = are.1;
    };
    unwritten = unwritten;
  }

  fault_on : (f : Fault) → KeepsHistory (store_state s) (store_state t) → AreDefinitionsOf (stored (store_state s)) (Err f) → HasFaultCause f (store_state s) (store_state t)
      → HasFault d (database.Records (opening.Read f)) (state_under t)
  fault_on Memory history are cause = record { of_reading = tt; stands = inl (opened.holds faithful).no_fault; failed = λ is. absurd is }
  fault_on Device history are cause = record { of_reading = tt; stands = tt; failed = λ is. device_cause d s t opened faithful history cause }
  fault_on Damaged history are cause = record {
    of_reading = tt;
    stands = record { contents = stored (store_state s); has = (opened.holds faithful).contents; none = are };
    failed = λ is. absurd is;
  }

  pub unread_on : (f : Fault) → KeepsHistory (store_state s) (store_state t) → AreDefinitionsOf (stored (store_state s)) (Err f) → HasFaultCause f (store_state s) (store_state t)
      → ReadsOn d (Err (database.Records (opening.Read f))) (state_under t)
  unread_on f history are cause = record { read = fault_on f history are cause; unwritten = unwritten }
