-- What is found where something else was looked for.
use Rattle.std.proofs.Common.{◌≡◌, ℕ, List, Result, Ok, Err}
use Rattle.store.specs.declared.fault.Fault.{Fault}
use Rattle.store.specs.declared.fault.Fault.TheVariants.{Memory, Device, Damaged}
use Rattle.store.specs.Records.{Record, Records}
use Rattle.catalogue_loading.specs.Walks.{AreHeld, LoadsItems}
use Rattle.catalogue_loading.specs.Found.{Finds, FindsAs}

-- where the one needs the other, a fault in looking for the other is a fault of the one
pub fault_found : {X Y Z W : Type 0} (said : X → Y) (IsThere : Y → Type 0) (other_said : Z → W) (IsOther : W → Type 0) (fault : Fault)
    → ((w : W) → IsOther w → (y : Y) × IsThere y) → FindsAs said IsThere (Err fault) → FindsAs other_said IsOther (Err fault)
fault_found said IsThere other_said IsOther Memory needs found = tt
fault_found said IsThere other_said IsOther Device needs found = tt
fault_found said IsThere other_said IsOther Damaged needs found = λ w is. let y = needs w is in found y.0 y.1

-- so it is for items
pub items_found : {X : Type 0} (IsValid : X → Type 0) (spell : X → Record) (records : Records) (prefix : List ℕ) (result : Result (List X) Fault)
    → LoadsItems IsValid spell records prefix result → Finds (AreHeld IsValid spell records prefix) result
items_found IsValid spell records prefix (Ok items) loaded = loaded
items_found IsValid spell records prefix (Err Memory) loaded = tt
items_found IsValid spell records prefix (Err Device) loaded = tt
items_found IsValid spell records prefix (Err Damaged) loaded = loaded

pub memory_found : {X Y : Type 0} (said : X → Y) (IsThere : Y → Type 0) (fault : Fault) → fault ≡ Memory → FindsAs said IsThere (Err fault)
memory_found said IsThere Memory is = tt
memory_found said IsThere Device is = cc
memory_found said IsThere Damaged is = cc
