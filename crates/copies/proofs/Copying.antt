-- A copy of a store and of the device below it, by what a copy of records does.
use Rattle.std.proofs.Common.{◌≡◌, ◌⊎◌, ◌/◌, ◌^◌, ◌-◌, ℕ, inl, inr, List, Result, Ok, Err, IfErr, false, refl, sym, ap, subst, ◌∙◌, arith}
use Rattle.std.proofs.lemmas.Bool.{cases_lt, false≢true}
use Rattle.storage_sizes.specs.declared.record_format.RecordFormat.{RecordFormat}
use Rattle.storage_sizes.specs.declared.record_format.RecordFormat.TheVariants.{V2}
use Rattle.storage_sizes.specs.CurrentRecordFormat.{current}
use Rattle.sector_device.specs.Device.{DeviceState, Image, HasFailed, IsLeft}
use Rattle.store.specs.declared.fault.Fault.{Fault}
use Rattle.store.specs.declared.fault.Fault.TheVariants as read
use Rattle.store.specs.Records.{Records, Changes}
use Rattle.store.specs.Store.{Contents, StoreState, HasDeviceCause, KeepsHistory, stored}
use Rattle.store.specs.declared.fault.StoreFault.TheVariants as commit
use Rattle.store.proofs.Reading.{cause_later}
use Rattle.cow_pages.specs.declared.open.OpenFault.{OpenFault}
use Rattle.cow_pages.specs.declared.open.OpenFault.TheVariants as pages
use Rattle.journal_store.specs.ImageLaws.{has_plain}
use Rattle.journal_store.specs.declared.device_stores.DeviceStore.{DeviceStore}
use Rattle.journal_store.specs.DeviceImages.{HasContents}
use Rattle.journal_store.specs.DeviceOpening.{IsNamedFor, IsOpened}
use Rattle.journal_store.specs.DeviceStores.{state_under, store_state}
use Rattle.sector_device.specs.declared.device.Device.{Ghosts}
use Rattle.abstract_database.specs.Database.{Database}
use Rattle.stored_database.specs.Records.{StandsFor}
use Rattle.stored_database.specs.BothRecordFormats.{Stands, in_record_format_2}
use Rattle.transactions.specs.Views.{applied_all}
use Rattle.recovery.specs.Migrated.{in_second}
use Rattle.copies.specs.RecordCopies.{HasOutsized, behind_mark, whole}
use Rattle.copies.specs.DeviceCopies.{CopiesAll, CopiesTo, HasSourceCause, IsCopied}
use Rattle.databases.specs.Databases.{HoldsDatabase, MeansNone}
use Rattle.copies.specs.declared.fault.CopyFault.{CopyFault}
use Rattle.copies.specs.declared.fault.CopyFault.TheVariants.{Pages, Read, Write, WrongSize, Full}
use Rattle.copies.specs.DatabaseCopies.{Copies, CopiesDatabase, CopiesRead, CopiesStore, IsCopyOf, IsRead}
use Rattle.copies.proofs.Reading.{under_lists}

-- ---- a store that is copied

-- the records of a database, all behind the mark, are in record format 2
whole_is : ((records : Records) (db : Database) → StandsFor records db → behind_mark records ≡ records) → (contents : Contents) (lists : List Changes) (db : Database) → Stands contents db
    → applied_all lists contents.records ≡ in_record_format_2 contents.record_format contents.records → whole current (applied_all lists contents.records) ≡ in_second contents
unfolding current
whole_is all contents lists db stands is =
    ap (λ (es : Records). whole V2 es) is ∙ ap (λ (es : Records). let c : Contents = record { record_format = V2; records = es } in c) (all (in_record_format_2 contents.record_format contents.records) db stands)

pub copies_read : {E : Type 0} (state : E → DeviceState) → ((records : Records) (db : Database) → StandsFor records db → behind_mark records ≡ records) → (contents : Contents) (lists : List Changes)
    (result : Result (Unit {0}) CopyFault) (old new : E) → IsRead contents lists → CopiesTo state (applied_all lists contents.records) result old new → CopiesRead contents state result old new
copies_read state all contents lists result old new is copies = (
  is.1,
  is.2,
  subst (λ (c : Contents). CopiesAll state c result old new) (whole_is all contents lists is.1 is.2 (under_lists contents.record_format contents.records lists is.0)) copies,
)

-- no record of a database has a size that no store takes
pub no_outsized : ((records : Records) (db : Database) → StandsFor records db → HasOutsized records → ⊥) → ((records : Records) (db : Database) → StandsFor records db → behind_mark records ≡ records)
    → (contents : Contents) (lists : List Changes) → IsRead contents lists → HasOutsized (behind_mark (applied_all lists contents.records)) → ⊥
no_outsized sizes all contents lists is has =
    let same = under_lists contents.record_format contents.records lists is.0 in
    sizes (in_record_format_2 contents.record_format contents.records) is.1 is.2
    (subst HasOutsized (ap behind_mark same ∙ all (in_record_format_2 contents.record_format contents.records) is.1 is.2) has)

refused_copy : {E : Type 0} (state : E → DeviceState) (contents : Contents) (fault : CopyFault) (old new : E) → CopiesRead contents state (Err fault) old new → (fault ≡ Read read.Damaged → ⊥)
    → CopiesStore contents state (Err fault) old new
refused_copy state contents (Read read.Memory) old new is not = absurd is.2
refused_copy state contents (Read read.Device) old new is not = inr is
refused_copy state contents (Read read.Damaged) old new is not = absurd (not refl)
refused_copy state contents (Write fault) old new is not = is
refused_copy state contents (Pages fault) old new is not = absurd is.2
refused_copy state contents WrongSize old new is not = is
refused_copy state contents (Full least) old new is not = is

pub copies_store : {E : Type 0} (state : E → DeviceState) (contents : Contents) (result : Result (Unit {0}) CopyFault) (old new : E) → CopiesRead contents state result old new
    → IfErr result (λ fault. fault ≡ Read read.Damaged → ⊥) → CopiesStore contents state result old new
copies_store state contents (Ok x) old new is not = is
copies_store state contents (Err fault) old new is not = refused_copy state contents fault old new is not

-- where it cannot be, it is not
pub undamaged : (P : Type 0) (result : Result (Unit {0}) CopyFault) → IfErr result (λ fault. fault ≡ Read read.Damaged → P) → (P → ⊥) → IfErr result (λ fault. fault ≡ Read read.Damaged → ⊥)
undamaged P (Ok x) is none = tt
undamaged P (Err fault) is none = λ damaged. none (is damaged)

pub refused_read : {E : Type 0} (state : E → DeviceState) (contents : Contents) (fault : Fault) (target : E) → ((db : Database) → Stands contents db → fault ≡ read.Damaged → ⊥)
    → CopiesStore contents state (Err (Read fault)) target target
refused_read state contents read.Memory target none = refl
refused_read state contents read.Device target none = inl refl
refused_read state contents read.Damaged target none = (λ db stands. none db stands refl, refl)

-- the source failed in the copy, after reads that did not
cause_since : (fault : CopyFault) (old mid new : StoreState) → KeepsHistory old mid → mid.has_failed ≡ old.has_failed → KeepsHistory mid new → HasSourceCause fault mid new → HasSourceCause fault old new
cause_since (Read read.Memory) old mid new first same second cause = tt
cause_since (Read read.Device) old mid new first same second cause = cause_later commit.Device old mid new first same second cause
cause_since (Read read.Damaged) old mid new first same second cause = tt
cause_since (Write fault) old mid new first same second cause = tt
cause_since (Pages fault) old mid new first same second cause = tt
cause_since WrongSize old mid new first same second cause = tt
cause_since (Full least) old mid new first same second cause = tt

pub source_cause : (result : Result (Unit {0}) CopyFault) (old mid new : StoreState) → KeepsHistory old mid → mid.has_failed ≡ old.has_failed → KeepsHistory mid new
    → IfErr result (λ fault. HasSourceCause fault mid new) → IfErr result (λ fault. HasSourceCause fault old new)
source_cause (Ok x) old mid new first same second cause = tt
source_cause (Err fault) old mid new first same second cause = cause_since fault old mid new first same second cause

-- ---- a device that is copied

-- a store over it failed since it was opened
pub failed_from : {D : Type 0} {g : Ghosts D} (d : DeviceState) (s t : DeviceStore D g) → IsOpened d s → KeepsHistory (store_state s) (store_state t) → d.faithful
    → HasDeviceCause (store_state s) (store_state t) → HasFailed d (state_under t)
failed_from {D} {g} d s t opened history faithful cause = elim (cause.fault (opened.holds faithful).sound) [
  | inl failed ↦ absurd (false≢true (sym opened.has_not_failed ∙ failed))
  | inr rose ↦ elim rose [
    | inl more ↦ inl (omega (arith, opened.history.failures, more))
    | inr most ↦ elim (cases_lt d.failures (2 ^ 64 - 1)) [
      | inl lt ↦ inl (omega (arith, lt, most, history.faults))
      | inr past ↦ inr (omega (arith, past, most, opened.history.failures))
    ]
  ]
]

pub refused_pages : {E : Type 0} (state : E → DeviceState) (d e : DeviceState) (fault : OpenFault) (target : E) → IsNamedFor fault d → (fault ≡ pages.Device → HasFailed d e)
    → CopiesDatabase d e state (Err (Pages fault)) target target
refused_pages state d e pages.WrongSize target named failed = (named, refl)
refused_pages state d e pages.NotADatabase target named failed = (named, refl)
refused_pages state d e (pages.NewerFormat format) target named failed = (named, refl)
refused_pages state d e pages.Damaged target named failed = (named, refl)
refused_pages state d e pages.Device target named failed = (failed refl, refl)
refused_pages state d e pages.Memory target named failed = (named, refl)

module _ {E : Type 0} (state : E → DeviceState) (d e : DeviceState) (contents : Contents) (has : HasContents (d.sectors / 8) contents d.content) (s t : StoreState) (failed : HasDeviceCause s t → HasFailed d e) where
  abbrev held : (result : Result (Unit {0}) CopyFault) (old new : E) → CopiesRead contents state result old new → Copies d state result old new
  held result old new is = record { database = is.0; holds = record { contents = contents; has = has; stands = is.1 }; copied = is.2 }

  none_held : ((db : Database) → Stands contents db → ⊥) → MeansNone (d.sectors / 8) d.content
  none_held none = record { contents = contents; has = has; none = none }

  pub copies_database : (result : Result (Unit {0}) CopyFault) (old new : E) → CopiesStore contents state result old new → IfErr result (λ fault. HasSourceCause fault s t) → CopiesDatabase d e state result old new
  copies_database (Ok x) old new is cause = (
    held (Ok x) old new is,
    λ faithful image left. record { contents = in_second contents; has = has_plain false ((state new).sectors / 8) (in_second contents) image refl (is.2.1 faithful image left); stands = is.1 },
  )
  copies_database (Err (Pages fault)) old new is cause = absurd is
  copies_database (Err (Read read.Memory)) old new is cause = is
  copies_database (Err (Read read.Damaged)) old new is cause = (none_held is.0, is.1)
  copies_database (Err (Read read.Device)) old new is cause = (failed cause, elim is [ inl same ↦ inl same | inr copied ↦ inr (held (Err (Read read.Device)) old new copied) ])
  copies_database (Err (Write fault)) old new is cause = held (Err (Write fault)) old new is
  copies_database (Err WrongSize) old new is cause = held (Err WrongSize) old new is
  copies_database (Err (Full least)) old new is cause = held (Err (Full least)) old new is
