-- How calls over the rows of a table answer, and why they fail.
use Rattle.std.specs.Prelude.{◌≡◌, Result, Ok, Err}
use Rattle.sql_types.specs.declared.state.SqlState.{SqlState}
use Rattle.store.specs.declared.fault.Fault.TheVariants.{Memory, Device, Damaged}
use Rattle.store.specs.declared.stop.StatementError.{StatementError}
use Rattle.store.specs.declared.stop.StatementError.TheVariants.{Refused, Failed}

-- ---- answers

-- a call gives what is meant, or its refusal, unless an allocation fails
abbrev pub Gives : {A : Type 0} → Result A StatementError → Result A SqlState → Type 0
Gives (Ok x) meant = meant ≡ Ok x
Gives (Err (Refused code)) meant = meant ≡ Err code
Gives (Err (Failed Memory)) meant = Unit {0}
Gives (Err (Failed Device)) meant = ⊥
Gives (Err (Failed Damaged)) meant = ⊥

-- a call over a map gives what is meant, or its refusal, unless an allocation or the device fails
abbrev pub Answers : {A : Type 0} → Result A StatementError → Result A SqlState → Type 0
Answers (Ok x) meant = meant ≡ Ok x
Answers (Err (Refused code)) meant = meant ≡ Err code
Answers (Err (Failed Memory)) meant = Unit {0}
Answers (Err (Failed Device)) meant = Unit {0}
Answers (Err (Failed Damaged)) meant = ⊥

-- ---- causes

-- a call stops for damage for this cause alone
abbrev pub IsDamagedFor : Type 0 → StatementError → Type 0
IsDamagedFor cause (Refused code) = Unit {0}
IsDamagedFor cause (Failed Memory) = Unit {0}
IsDamagedFor cause (Failed Device) = Unit {0}
IsDamagedFor cause (Failed Damaged) = cause

-- a call that reads no map fails with no Device
abbrev pub ReadsNoMap : {A : Type 0} → Result A StatementError → Type 0
ReadsNoMap (Ok x) = Unit {0}
ReadsNoMap (Err (Refused code)) = Unit {0}
ReadsNoMap (Err (Failed Memory)) = Unit {0}
ReadsNoMap (Err (Failed Device)) = ⊥
ReadsNoMap (Err (Failed Damaged)) = Unit {0}
