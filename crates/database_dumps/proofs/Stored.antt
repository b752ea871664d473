-- A dump of the contents of a store, and of a device.
use Rattle.std.proofs.Common.{◌≡◌, ℕ, List, Result, Ok, Err, IfErr, OnOk, refl, sym, ap, subst, ◌∙◌}
use Rattle.sector_device.specs.Device.{DeviceState, HasFailed}
use Rattle.store.specs.declared.fault.Fault.{Fault}
use Rattle.store.specs.declared.fault.Fault.TheVariants as read
use Rattle.store.specs.declared.fault.StoreFault.TheVariants as write
use Rattle.store.specs.Records.{Records, Changes}
use Rattle.store.specs.Store.{HasDeviceCause, KeepsHistory, StoreState, stored}
use Rattle.store.proofs.Reading.{cause_later}
use Rattle.cow_pages.specs.declared.open.OpenFault.{OpenFault}
use Rattle.cow_pages.specs.declared.open.OpenFault.TheVariants as pages
use Rattle.journal_store.specs.DeviceOpening.{HoldsImage, IsNamedFor}
use Rattle.abstract_database.specs.Database.{Database}
use Rattle.stored_database.specs.Records.{StandsFor}
use Rattle.stored_database.specs.BothRecordFormats.{Stands, in_record_format_2}
use Rattle.transactions.specs.Views.{applied_all}
use Rattle.copies.specs.RecordCopies.{behind_mark}
use Rattle.copies.specs.DatabaseCopies.{IsRead}
use Rattle.copies.specs.declared.fault.CopyFault.{CopyFault}
use Rattle.copies.specs.declared.fault.CopyFault.TheVariants.{Pages, Read, Write, WrongSize, Full}
use Rattle.copies.proofs.Reading.{under_lists}
use Rattle.dumps.specs.OnDevice.{BeginsWithZeros}
use Rattle.dumps.proofs.Heads.{dump_stays}
use Rattle.database_dumps.specs.Dumping.{DumpsDatabase, HasDumpCause, HasDumpedRecords, IsDumpOfStore}

-- ---- a store

-- the records under the lists are those of the database, in record format 2
dump_of_store : ((records : Records) (db : Database) → StandsFor records db → behind_mark records ≡ records) → (s : StoreState) (lists : List Changes) (number : ℕ) (d : DeviceState) → IsRead (stored s) lists → number ≡ s.number
    → HasDumpedRecords (applied_all lists s.map) number d → IsDumpOfStore s d
dump_of_store all s lists number d is same has =
    let under = under_lists s.record_format s.map lists is.0 in
    record {
      database = is.1;
      stands = is.2;
      dump = has.dump;
      holds = has.holds;
      synced = has.synced;
      numbered = has.numbered ∙ same;
      makes = has.makes ∙ ap behind_mark under ∙ all (in_record_format_2 s.record_format s.map) is.1 is.2;
    }

pub dumped_store : ((records : Records) (db : Database) → StandsFor records db → behind_mark records ≡ records) → (s : StoreState) (lists : List Changes) (number : ℕ) (d : DeviceState) (result : Result (Unit {0}) CopyFault)
    → IsRead (stored s) lists → number ≡ s.number → OnOk result (HasDumpedRecords (applied_all lists s.map) number d) → OnOk result (IsDumpOfStore s d)
dumped_store all s lists number d (Ok x) is same has = dump_of_store all s lists number d is same has
dumped_store all s lists number d (Err fault) is same has = tt

abbrev fault_in : CopyFault → Fault
fault_in (Read fault) = fault
fault_in fault = read.Memory

pub read_refused : (fault : Fault) → Read fault ≡ Read read.Damaged → fault ≡ read.Damaged
read_refused fault is = ap fault_in is

-- Damaged does not come of what stands for a database, and Pages never of a store
pub undamaged_answer : (result : Result (Unit {0}) CopyFault) → IfErr result (λ fault. fault ≡ Read read.Damaged → ⊥) → result ≡ Err (Read read.Damaged) → ⊥
undamaged_answer result none is = subst (λ (r : Result (Unit {0}) CopyFault). IfErr r (λ fault. fault ≡ Read read.Damaged → ⊥)) is none refl

pub opened_answer : (result : Result (Unit {0}) CopyFault) (fault : OpenFault) (s t : StoreState) (d e : DeviceState) → IfErr result (λ f. HasDumpCause f s t d e) → result ≡ Err (Pages fault) → ⊥
opened_answer result fault s t d e cause is = subst (λ (r : Result (Unit {0}) CopyFault). IfErr r (λ f. HasDumpCause f s t d e)) is cause

-- a cause since an earlier moment of the source
cause_before : (fault : CopyFault) (old mid new : StoreState) (d e : DeviceState) → KeepsHistory old mid → mid.has_failed ≡ old.has_failed → KeepsHistory mid new → HasDumpCause fault mid new d e → HasDumpCause fault old new d e
cause_before (Read read.Memory) old mid new d e first same second cause = tt
cause_before (Read read.Device) old mid new d e first same second cause = cause_later write.Device old mid new first same second cause
cause_before (Read read.Damaged) old mid new d e first same second cause = tt
cause_before (Write write.Full) old mid new d e first same second cause = tt
cause_before (Write write.Memory) old mid new d e first same second cause = tt
cause_before (Write write.Device) old mid new d e first same second cause = cause
cause_before (Write write.Number) old mid new d e first same second cause = absurd cause
cause_before (Pages fault) old mid new d e first same second cause = absurd cause
cause_before WrongSize old mid new d e first same second cause = absurd cause
cause_before (Full least) old mid new d e first same second cause = absurd cause

pub dump_cause : (result : Result (Unit {0}) CopyFault) (old mid new : StoreState) (d e : DeviceState) → KeepsHistory old mid → mid.has_failed ≡ old.has_failed → KeepsHistory mid new
    → IfErr result (λ fault. HasDumpCause fault mid new d e) → IfErr result (λ fault. HasDumpCause fault old new d e)
dump_cause (Ok x) old mid new d e first same second cause = tt
dump_cause (Err fault) old mid new d e first same second cause = cause_before fault old mid new d e first same second cause

-- ---- a device

pub refused_pages : (d e old new : DeviceState) (fault : OpenFault) → IsNamedFor fault d → (fault ≡ pages.Device → HasFailed d e) → DumpsDatabase d e (Err (Pages fault)) old new
refused_pages d e old new pages.WrongSize named failed = named
refused_pages d e old new pages.NotADatabase named failed = named
refused_pages d e old new (pages.NewerFormat format) named failed = named
refused_pages d e old new pages.Damaged named failed = named
refused_pages d e old new pages.Device named failed = failed refl
refused_pages d e old new pages.Memory named failed = named

pub dumps_database : (d e old new : DeviceState) (s t : StoreState) (result : Result (Unit {0}) CopyFault) → HoldsImage d s → (HasDeviceCause s t → HasFailed d e)
    → (old.faithful → BeginsWithZeros old → OnOk result (IsDumpOfStore s new)) → IfErr result (λ fault. HasDumpCause fault s t old new)
    → ((db : Database) → Stands (stored s) db → IfErr result (λ fault. fault ≡ Read read.Damaged → ⊥)) → DumpsDatabase d e result old new
dumps_database d e old new s t (Ok x) holds failed dumped cause damaged = λ faithful zeros.
    let is = dumped faithful zeros in
    record {
      database = is.database;
      means = record { contents = stored s; has = holds.contents; stands = is.stands };
      dump = is.dump;
      makes = is.makes;
      number = is.numbered ∙ sym holds.number_is;
      left = λ image left. dump_stays new.sectors new.content image is.dump (λ k lt. is.synced k lt (image k) (left k lt)) is.holds;
    }
dumps_database d e old new s t (Err (Read read.Memory)) holds failed dumped cause damaged = tt
dumps_database d e old new s t (Err (Read read.Device)) holds failed dumped cause damaged = failed cause
dumps_database d e old new s t (Err (Read read.Damaged)) holds failed dumped cause damaged = record { contents = stored s; has = holds.contents; none = λ db stands. damaged db stands refl }
dumps_database d e old new s t (Err (Write write.Full)) holds failed dumped cause damaged = tt
dumps_database d e old new s t (Err (Write write.Memory)) holds failed dumped cause damaged = tt
dumps_database d e old new s t (Err (Write write.Device)) holds failed dumped cause damaged = cause
dumps_database d e old new s t (Err (Write write.Number)) holds failed dumped cause damaged = absurd cause
dumps_database d e old new s t (Err (Pages fault)) holds failed dumped cause damaged = absurd cause
dumps_database d e old new s t (Err WrongSize) holds failed dumped cause damaged = absurd cause
dumps_database d e old new s t (Err (Full least)) holds failed dumped cause damaged = absurd cause
