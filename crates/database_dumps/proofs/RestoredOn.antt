-- A database that was made of a dump on a device.
use Rattle.std.proofs.Common.{◌≡◌, ◌/◌, ◌^◌, ◌-◌, inl, inr, false, Result, Ok, Err, IfErr, OnOk, refl, sym, subst, ◌∙◌, arith}
use Rattle.std.proofs.lemmas.Bool.{cases_lt, false≢true}
use Rattle.sector_device.specs.Device.{DeviceState, Image, HasFailed, IsLeft}
use Rattle.sector_device.specs.declared.device.Device.{Ghosts}
use Rattle.store.specs.Store.{Contents, HasDeviceCause, KeepsHistory, StoreState, stored}
use Rattle.store.specs.declared.fault.Fault.TheVariants as read
use Rattle.store.specs.declared.fault.StoreFault.TheVariants as write
use Rattle.cow_pages.specs.Cow.{device_below}
use Rattle.kv_store.specs.Contents.{HasContents}
use Rattle.kv_store.specs.declared.page_store.PageStore.{PageStore}
use Rattle.kv_store.specs.PageStore.{pages_of, store_state}
use Rattle.journal_store.specs.ImageLaws.{has_plain}
use Rattle.stored_database.specs.BothRecordFormats.{Stands}
use Rattle.copies.specs.DeviceCopies.{CannotBegin, IsBegun}
use Rattle.copies.specs.declared.fault.CopyFault.{CopyFault}
use Rattle.copies.specs.declared.fault.CopyFault.TheVariants.{Pages, Read, Write, WrongSize, Full}
use Rattle.dumps.specs.declared.fault.DumpFault.TheVariants as reading
use Rattle.database_dumps.specs.Restoring.{HasRestoreCause, IsRestored, IsRestoredIn, RestoresDump, RestoresIn}
use Rattle.database_dumps.specs.declared.fault.RestoreFault.{RestoreFault}
use Rattle.database_dumps.specs.declared.fault.RestoreFault.TheVariants.{Dump, New}
use Rattle.database_dumps.specs.declared.roles.RestoredRoles.{RestoredRoles}

-- nothing was made
pub not_begun : {D : Type 0} (g : Ghosts D) (d e : DeviceState) (fault : CopyFault) (old new : D) → (g.state old).faithful → CannotBegin g fault old new → RestoresDump d e (Err (New fault)) (g.state old) (g.state new)
not_begun g d e (Write write.Memory) old new faithful is = tt
not_begun g d e (Write write.Device) old new faithful is = is.1 faithful
not_begun g d e (Write write.Full) old new faithful is = absurd is
not_begun g d e (Write write.Number) old new faithful is = absurd is
not_begun g d e WrongSize old new faithful is = is.0
not_begun g d e (Full least) old new faithful is = absurd is
not_begun g d e (Pages fault) old new faithful is = absurd is
not_begun g d e (Read read.Memory) old new faithful is = absurd is
not_begun g d e (Read read.Device) old new faithful is = absurd is
not_begun g d e (Read read.Damaged) old new faithful is = absurd is

module _ {D : Type 0} {g : Ghosts D} (d e was : DeviceState) (s t : PageStore D g) (begun : IsBegun was s) (history : KeepsHistory (store_state s) (store_state t)) (faithful : was.faithful)
    (images : (store_state t).sound → (store_state t).has_failed ≡ false → (image : Image) → IsLeft (device_below (pages_of t)) image → HasContents ((device_below (pages_of t)).sectors / 8) (stored (store_state t)) image) where
  abbrev new : DeviceState
  new = device_below (pages_of t)

  failed_since : HasDeviceCause (store_state s) (store_state t) → HasFailed was new
  failed_since cause = elim (cause.fault (begun.sound faithful)) [
    | inl failed ↦ absurd (false≢true (sym begun.works ∙ failed))
    | inr rose ↦ elim rose [
      | inl more ↦ inl (omega (arith, begun.history.failures, more))
      | inr most ↦ elim (cases_lt was.failures (2 ^ 64 - 1)) [
        | inl lt ↦ inl (omega (arith, lt, most, history.faults))
        | inr past ↦ inr (omega (arith, past, most, begun.history.failures))
      ]
    ]
  ]

  whole : (roles : RestoredRoles) → IsRestoredIn d roles (store_state t) → IsRestored d roles new
  whole roles is = record {
    dump = is.dump;
    holds = is.holds;
    database = is.database;
    stands = is.stands;
    superusers = is.superusers;
    logins = is.logins;
    whole = λ image left. record {
      contents = stored (store_state t);
      has = has_plain false (new.sectors / 8) (stored (store_state t)) image refl (images is.sound is.works image left);
      stands = subst (λ (c : Contents). Stands c is.database) (sym is.stored_is) is.stands;
    };
  }

  pub restores : (result : Result RestoredRoles RestoreFault) → RestoresIn d result (store_state t) → IfErr result (λ fault. HasRestoreCause fault d e (store_state s) (store_state t)) → RestoresDump d e result was new
  restores (Ok roles) is cause = whole roles is
  restores (Err (Dump reading.Memory)) is cause = tt
  restores (Err (Dump reading.Device)) is cause = cause
  restores (Err (Dump reading.Damaged)) is cause = is
  restores (Err (Dump reading.NotADump)) is cause = is
  restores (Err (Dump (reading.OtherVersion version))) is cause = is
  restores (Err (New (Write write.Device))) is cause = failed_since cause
  restores (Err (New (Write write.Full))) is cause = tt
  restores (Err (New (Write write.Memory))) is cause = tt
  restores (Err (New (Write write.Number))) is cause = tt
  restores (Err (New (Read fault))) is cause = absurd cause
  restores (Err (New (Pages fault))) is cause = absurd cause
  restores (Err (New WrongSize)) is cause = absurd cause
  restores (Err (New (Full least))) is cause = absurd cause

  pub still_faithful : new.faithful
  still_faithful = (history.sound (begun.sound faithful)).faithful

-- what holds whatever is answered
pub on_any_ok : (P : Type 0) (result : Result RestoredRoles RestoreFault) → P → OnOk result P
on_any_ok P (Ok roles) is = is
on_any_ok P (Err fault) is = tt

-- a size is refused before anything else
pub size_given : (fault : CopyFault) (result : Result RestoredRoles RestoreFault) → result ≡ Err (New fault) → result ≡ Err (New WrongSize) → fault ≡ WrongSize
size_given fault result given is = cc

pub has_size : (result : Result RestoredRoles RestoreFault) (d e : DeviceState) (s t : StoreState) → IfErr result (λ fault. HasRestoreCause fault d e s t) → result ≡ Err (New WrongSize) → ⊥
has_size result d e s t cause is = let none : ⊥ = subst (λ (r : Result RestoredRoles RestoreFault). IfErr r (λ fault. HasRestoreCause fault d e s t)) is cause in none

pub not_begun_unchanged : {D : Type 0} (g : Ghosts D) (fault : CopyFault) (old new : D) → fault ≡ WrongSize → CannotBegin g fault old new → new ≡ old
not_begun_unchanged g fault old new is begins = (subst (λ (f : CopyFault). CannotBegin g f old new) is begins).1
