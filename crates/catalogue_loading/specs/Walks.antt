-- What a reader of many records answers.
use Rattle.std.specs.Prelude.{◌≡◌, ℕ, List, ◌∷◌, [], Option, Some, None, Result, Ok, Err}
use Rattle.store.specs.declared.fault.Fault.{Fault}
use Rattle.store.specs.declared.fault.Fault.TheVariants.{Memory, Device, Damaged}
use Rattle.store.specs.Records.{Record, Records}
use Rattle.store.specs.Items.{Holds}
use Rattle.store.specs.Walks.{Walk, left}
use Rattle.abstract_database.specs.Whole.{Each}
use Rattle.catalogue_loading.specs.Decoding.{IsSpelled}

-- the first record that is left to a walk spells no item
abbrev pub IsStuck : {X : Type 0} → (X → Type 0) → (X → Record) → Walk → Records → Type 0
IsStuck {X} IsValid spell walk records =
    (e : Record) × (rest : Records) × (left walk records ≡ e ∷ rest) × ((x : X) → IsSpelled IsValid spell e x → ⊥)

-- the first record that is left to a walk spells this item, and after it these are left
pub record IsNext {X : Type 0} (IsValid : X → Type 0) (spell : X → Record) (x : X) (old new : Walk) (records : Records) : Type 0 where
  pub valid : IsValid x
  pub spelled : left old records ≡ spell x ∷ left new records

-- a step of a walk over the records of items
abbrev pub MovesOn : {X : Type 0} → (X → Type 0) → (X → Record) → Result (Option X) Fault → Walk → Walk → Records → Type 0
MovesOn IsValid spell (Ok None) old new records = left old records ≡ []
MovesOn IsValid spell (Ok (Some x)) old new records = IsNext IsValid spell x old new records
MovesOn IsValid spell (Err Memory) old new records = Unit {0}
MovesOn IsValid spell (Err Device) old new records = Unit {0}
MovesOn IsValid spell (Err Damaged) old new records = IsStuck IsValid spell old records

-- the items that the records hold, each of which is valid
pub record AreHeld {X : Type 0} (IsValid : X → Type 0) (spell : X → Record) (records : Records) (prefix : List ℕ) (items : List X) : Type 0 where
  pub held : Holds records prefix spell items
  pub valid : Each IsValid items

-- the items that the records with a prefix hold, or Damaged where they hold none
abbrev pub LoadsItems : {X : Type 0} → (X → Type 0) → (X → Record) → Records → List ℕ → Result (List X) Fault → Type 0
LoadsItems IsValid spell records prefix (Ok items) = AreHeld IsValid spell records prefix items
LoadsItems IsValid spell records prefix (Err Memory) = Unit {0}
LoadsItems IsValid spell records prefix (Err Device) = Unit {0}
LoadsItems {X} IsValid spell records prefix (Err Damaged) = (items : List X) → AreHeld IsValid spell records prefix items → ⊥
