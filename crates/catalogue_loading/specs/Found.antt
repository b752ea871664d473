-- What a reader of many records answers.
use Rattle.std.specs.Prelude.{Result, Ok, Err}
use Rattle.store.specs.declared.fault.Fault.{Fault}
use Rattle.store.specs.declared.fault.Fault.TheVariants.{Memory, Device, Damaged}

-- what is there, of which the answer says this much, or Damaged where no such thing is there
abbrev pub FindsAs : {X Y : Type 0} → (X → Y) → (Y → Type 0) → Result X Fault → Type 0
FindsAs said IsThere (Ok x) = IsThere (said x)
FindsAs said IsThere (Err Memory) = Unit {0}
FindsAs said IsThere (Err Device) = Unit {0}
FindsAs {X} {Y} said IsThere (Err Damaged) = (y : Y) → IsThere y → ⊥

-- what is there, or Damaged where no such thing is there
abbrev pub Finds : {X : Type 0} → (X → Type 0) → Result X Fault → Type 0
Finds {X} IsThere result = FindsAs (λ (x : X). x) IsThere result
