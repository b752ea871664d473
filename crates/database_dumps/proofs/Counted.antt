-- Pages of a dump that are counted.
use Rattle.std.proofs.Common.{◌≡◌, ℕ, Result, Ok, Err, IfErr, refl, sym, subst, ◌∙◌}
use Rattle.sector_device.specs.Device.{DeviceState, HasFailed}
use Rattle.store.specs.declared.fault.Fault.TheVariants as read
use Rattle.store.specs.declared.fault.StoreFault.TheVariants as write
use Rattle.store.specs.Store.{HasDeviceCause, KeepsHistory, StoreState, stored}
use Rattle.store.proofs.Reading.{cause_later}
use Rattle.cow_pages.specs.declared.open.OpenFault.{OpenFault}
use Rattle.cow_pages.specs.declared.open.OpenFault.TheVariants as pages
use Rattle.journal_store.specs.DeviceOpening.{HoldsImage, IsNamedFor}
use Rattle.abstract_database.specs.Database.{Database}
use Rattle.stored_database.specs.BothRecordFormats.{Stands}
use Rattle.copies.specs.declared.fault.CopyFault.{CopyFault}
use Rattle.copies.specs.declared.fault.CopyFault.TheVariants.{Pages, Read, Write, WrongSize, Full}
use Rattle.database_dumps.specs.Counting.{CountsPages, HasCountCause, HasRecordsCause, HasPageCount}

-- why they were not, since an earlier moment of the source
pub count_cause : (fault : CopyFault) (old mid new : StoreState) → KeepsHistory old mid → mid.has_failed ≡ old.has_failed → KeepsHistory mid new → HasRecordsCause fault mid new → HasCountCause fault old new
count_cause (Read read.Memory) old mid new first same second cause = tt
count_cause (Read read.Device) old mid new first same second cause = cause_later write.Device old mid new first same second cause
count_cause (Read read.Damaged) old mid new first same second cause = tt
count_cause (Write write.Memory) old mid new first same second cause = tt
count_cause (Write write.Full) old mid new first same second cause = absurd cause
count_cause (Write write.Device) old mid new first same second cause = absurd cause
count_cause (Write write.Number) old mid new first same second cause = absurd cause
count_cause (Pages fault) old mid new first same second cause = absurd cause
count_cause WrongSize old mid new first same second cause = absurd cause
count_cause (Full least) old mid new first same second cause = absurd cause

-- nothing is said of a count then
pub no_count : (fault : CopyFault) (s t : StoreState) → HasRecordsCause fault s t → HasPageCount (Err fault)
no_count (Read fault) s t cause = tt
no_count (Write fault) s t cause = tt
no_count (Pages fault) s t cause = tt
no_count WrongSize s t cause = tt
no_count (Full least) s t cause = absurd cause

-- a file may not have so many
pub full_cause : (result : Result ℕ CopyFault) (count : ℕ) (s t : StoreState) → IfErr result (λ fault. fault ≡ Full count) → IfErr result (λ fault. HasCountCause fault s t)
full_cause (Ok n) count s t is = tt
full_cause (Err fault) count s t is = subst (λ (f : CopyFault). HasCountCause f s t) (sym is) tt

pub full_undamaged : (result : Result ℕ CopyFault) (count : ℕ) → IfErr result (λ fault. fault ≡ Full count) → IfErr result (λ fault. fault ≡ Read read.Damaged → ⊥)
full_undamaged (Ok n) count is = tt
full_undamaged (Err fault) count is = λ damaged. let wrong : Full count ≡ Read read.Damaged = sym is ∙ damaged in cc

-- ---- a device

pub refused_count : (d e : DeviceState) (fault : OpenFault) → IsNamedFor fault d → (fault ≡ pages.Device → HasFailed d e) → CountsPages d e (Err (Pages fault))
refused_count d e pages.WrongSize named failed = named
refused_count d e pages.NotADatabase named failed = named
refused_count d e (pages.NewerFormat format) named failed = named
refused_count d e pages.Damaged named failed = named
refused_count d e pages.Device named failed = failed refl
refused_count d e pages.Memory named failed = named

pub counts_pages : (d e : DeviceState) (s t : StoreState) (result : Result ℕ CopyFault) → HoldsImage d s → (HasDeviceCause s t → HasFailed d e) → IfErr result (λ fault. HasCountCause fault s t)
    → ((db : Database) → Stands (stored s) db → IfErr result (λ fault. fault ≡ Read read.Damaged → ⊥)) → CountsPages d e result
counts_pages d e s t (Ok count) holds failed cause damaged = tt
counts_pages d e s t (Err (Read read.Memory)) holds failed cause damaged = tt
counts_pages d e s t (Err (Read read.Device)) holds failed cause damaged = failed cause
counts_pages d e s t (Err (Read read.Damaged)) holds failed cause damaged = record { contents = stored s; has = holds.contents; none = λ db stands. damaged db stands refl }
counts_pages d e s t (Err (Write write.Memory)) holds failed cause damaged = tt
counts_pages d e s t (Err (Write write.Full)) holds failed cause damaged = absurd cause
counts_pages d e s t (Err (Write write.Device)) holds failed cause damaged = absurd cause
counts_pages d e s t (Err (Write write.Number)) holds failed cause damaged = absurd cause
counts_pages d e s t (Err (Pages fault)) holds failed cause damaged = absurd cause
counts_pages d e s t (Err WrongSize) holds failed cause damaged = absurd cause
counts_pages d e s t (Err (Full count)) holds failed cause damaged = tt
