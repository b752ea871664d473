-- Why a statement is not carried out, and what was read until then.
use Rattle.std.specs.Prelude.{◌≡◌, Bool, true, Result, Ok, Err, IfErr}
use Rattle.sql_types.specs.declared.state.SqlState.{SqlState}
use Rattle.sql_types.specs.declared.state.SqlState.TheVariants.{OutOfMemory}
use Rattle.store.specs.declared.fault.Fault.TheVariants.{Memory, Device, Damaged}
use Rattle.store.specs.declared.stop.StatementError.{StatementError}
use Rattle.store.specs.declared.stop.StatementError.TheVariants.{Refused, Failed}
use Rattle.store.specs.Store.{StoreState, OnlyReads, HasDeviceCause}

-- ---- refusals

-- a refusal for memory is a failure, and each other one is the statement's
abbrev pub IsStopBy : SqlState → StatementError → Type 0
IsStopBy code (Refused c) = (c ≡ code) × (code ≡ OutOfMemory → ⊥)
IsStopBy code (Failed Memory) = code ≡ OutOfMemory
IsStopBy code (Failed Device) = ⊥
IsStopBy code (Failed Damaged) = ⊥

-- the statement is refused, or an allocation failed: nothing else does
abbrev pub FailsForMemory : StatementError → Type 0
FailsForMemory (Refused code) = Unit {0}
FailsForMemory (Failed fault) = fault ≡ Memory

-- ---- reads

-- why a call over a map stops: Device has a cause in the map
abbrev pub HasMapCause : StatementError → StoreState → StoreState → Type 0
HasMapCause (Refused code) old new = Unit {0}
HasMapCause (Failed Memory) old new = Unit {0}
HasMapCause (Failed Device) old new = HasDeviceCause old new
HasMapCause (Failed Damaged) old new = Unit {0}

-- whether a map has failed after this answer: an answer Device stays, and no other sets it
abbrev pub failed_by : {A : Type 0} → Result A StatementError → Bool → Bool
failed_by (Ok x) had_failed = had_failed
failed_by (Err (Refused code)) had_failed = had_failed
failed_by (Err (Failed Memory)) had_failed = had_failed
failed_by (Err (Failed Device)) had_failed = true
failed_by (Err (Failed Damaged)) had_failed = had_failed

-- a call that reads a map and changes nothing of it, whatever it answers
pub record ReadsMap {A : Type 0} (result : Result A StatementError) (old new : StoreState) : Type 0 where
  pub only_reads : OnlyReads old new
  pub cause : IfErr result (λ stop. HasMapCause stop old new)
  pub failed : new.has_failed ≡ failed_by result old.has_failed
