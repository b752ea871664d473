-- Walks of a store on a device, by those of its kind.
use Rattle.std.proofs.Common.{◌≡◌, ℕ, List, Bool, true, false, inl, Result, Ok, Err, refl, sym, ap, subst, ◌∙◌}
use Rattle.std.proofs.lemmas.Bool.{false≢true}
use Rattle.store.specs.Steps.{Goes, Takes}
use Rattle.store.specs.Store.{StoreState}
use Rattle.store.specs.declared.fault.StoreFault.{StoreFault}
use Rattle.store.specs.declared.fault.StoreFault.TheVariants.{Full, Memory, Device, Number}
use Rattle.store.proofs.Reading.{none_read}
use Rattle.sector_device.specs.Timeline.{IsPresent}
use Rattle.sector_device.specs.Device.{timeline}
use Rattle.sector_device.specs.declared.device.Device.{Ghosts}
use Rattle.store.specs.Records.{Records}
use Rattle.journal_store.specs.declared.device_stores.DeviceStore.{DeviceStore}
use Rattle.journal_store.specs.declared.places.StorePlace.{StorePlace}
use Rattle.journal_store.specs.DeviceReads.{AreAhead, AreAheadWithin, IsFoundAt, nowhere, faithful_under, present_on}
use Rattle.journal_store.specs.DeviceStores.{device_of, store_state}

-- an answer as one of another type
abbrev pub mapped : {A B : Type 0} → (A → B) → Result A StoreFault → Result B StoreFault
mapped f (Ok x) = Ok (f x)
mapped f (Err fault) = Err fault

module _ {A B : Type 0} (f : A → B) (answers : A → Type 0) (others : B → Type 0) (give : (x : A) → answers x → others (f x)) (old new : StoreState) where
  pub goes_as : (result : Result A StoreFault) → Goes answers result old new → Goes others (mapped f result) old new
  goes_as (Ok x) goes = record {
    only_reads = goes.only_reads;
    answer = λ sound. give x (goes.answer sound);
    cause = tt;
    failed = goes.failed;
    closed = λ closes had. ap (λ (r : Result A StoreFault). mapped f r) (goes.closed closes had);
  }
  goes_as (Err Full) goes = absurd goes.cause
  goes_as (Err Memory) goes = record {
    only_reads = goes.only_reads;
    answer = λ sound. tt;
    cause = tt;
    failed = goes.failed;
    closed = λ closes had. ap (λ (r : Result A StoreFault). mapped f r) (goes.closed closes had);
  }
  goes_as (Err Device) goes = record {
    only_reads = goes.only_reads;
    answer = λ sound. tt;
    cause = goes.cause;
    failed = goes.failed;
    closed = λ closes had. refl;
  }
  goes_as (Err Number) goes = absurd goes.cause

-- no step is made from a place of a store of the other kind
module _ (s : StoreState) (present : s.sound → IsPresent s.time) (answers : Bool → Type 0) (any : answers false) where
  nowhere_at : (failed : Bool) → s.has_failed ≡ failed → Goes answers (nowhere failed) s s
  nowhere_at true is = record {
    only_reads = none_read s present;
    answer = λ sound. tt;
    cause = record { counted = inl is; fault = λ sound. inl is };
    failed = is;
    closed = λ closes had. refl;
  }
  nowhere_at false is = record {
    only_reads = none_read s present;
    answer = λ sound. any;
    cause = tt;
    failed = refl;
    closed = λ closes had. absurd (false≢true (sym is ∙ had));
  }

  pub goes_nowhere : Goes answers (nowhere s.has_failed) s s
  goes_nowhere = nowhere_at s.has_failed refl

module _ {D : Type 0} {g : Ghosts D} (present : (device : D) → (g.state device).faithful → IsPresent (timeline (g.state device))) (x s : DeviceStore D g) (is : x ≡ s) (place later : StorePlace) (result : Result Bool StoreFault)
    (answer : result ≡ nowhere (store_state s).has_failed) (none : (records : Records) → AreAhead s place records → ⊥) where
  abbrev Steps : DeviceStore D g → Bool → Type 0
  Steps y found = (records : Records) → AreAhead y place records → Takes (λ e. IsFoundAt s later e) (λ es. AreAhead s later es) found records

  pub steps_nowhere : Goes (Steps x) result (store_state x) (store_state s)
  steps_nowhere =
      subst (λ (y : DeviceStore D g). Goes (Steps y) result (store_state y) (store_state s)) (sym is)
      (subst (λ (r : Result Bool StoreFault). Goes (Steps s) r (store_state s) (store_state s)) (sym answer)
      (goes_nowhere (store_state s) (λ sound. present_on s (present (device_of s) (faithful_under s sound))) (Steps s) (λ records ahead. absurd (none records ahead))))

-- nor one up to a stop
module _ {D : Type 0} {g : Ghosts D} (stop : List ℕ) (present : (device : D) → (g.state device).faithful → IsPresent (timeline (g.state device))) (x s : DeviceStore D g) (is : x ≡ s) (place later : StorePlace) (result : Result Bool StoreFault)
    (answer : result ≡ nowhere (store_state s).has_failed) (none : (records : Records) → AreAheadWithin s stop place records → ⊥) where
  abbrev StepsWithin : DeviceStore D g → Bool → Type 0
  StepsWithin y found = (records : Records) → AreAheadWithin y stop place records → Takes (λ e. IsFoundAt s later e) (λ es. AreAheadWithin s stop later es) found records

  pub steps_within_nowhere : Goes (StepsWithin x) result (store_state x) (store_state s)
  steps_within_nowhere =
      subst (λ (y : DeviceStore D g). Goes (StepsWithin y) result (store_state y) (store_state s)) (sym is)
      (subst (λ (r : Result Bool StoreFault). Goes (StepsWithin s) r (store_state s) (store_state s)) (sym answer)
      (goes_nowhere (store_state s) (λ sound. present_on s (present (device_of s) (faithful_under s sound))) (StepsWithin s) (λ records ahead. absurd (none records ahead))))
