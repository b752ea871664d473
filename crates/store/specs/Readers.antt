-- What code that reads the records of a map answers, with faults of its own.
use Rattle.std.specs.Prelude.{◌≡◌, Bool, true, Result, Ok, Err, IfErr}
use Rattle.store.specs.declared.fault.Fault.{Fault}
use Rattle.store.specs.declared.fault.Fault.TheVariants.{Memory, Device, Damaged}
use Rattle.store.specs.Store.{StoreState, OnlyReads, HasDeviceCause}

-- why a reader of records answers a fault: an allocation may always fail, and what is damaged each reader says
abbrev pub HasFaultCause : Fault → StoreState → StoreState → Type 0
HasFaultCause Memory old new = Unit {0}
HasFaultCause Device old new = HasDeviceCause old new
HasFaultCause Damaged old new = Unit {0}

-- whether a store has failed after this answer: an answer Device stays, and no other sets it
abbrev pub failed_after_reads : {T : Type 0} → Result T Fault → Bool → Bool
failed_after_reads (Ok x) had_failed = had_failed
failed_after_reads (Err Memory) had_failed = had_failed
failed_after_reads (Err Device) had_failed = true
failed_after_reads (Err Damaged) had_failed = had_failed

-- any number of reads of records, and what they answer
pub record HasRead {T : Type 0} (result : Result T Fault) (old new : StoreState) : Type 0 where
  pub only_reads : OnlyReads old new
  pub cause : IfErr result (λ fault. HasFaultCause fault old new)
  pub failed : new.has_failed ≡ failed_after_reads result old.has_failed
