-- What a reader of bytes answers: the item that they spell, or that they spell none.
use Rattle.std.specs.Prelude.{◌≡◌, ℕ, List, ◌++◌, Result, Ok, Err}
use Rattle.std.specs.Borrow.{Bor}
use Rattle.store.specs.declared.fault.Fault.{Fault}
use Rattle.store.specs.declared.fault.Fault.TheVariants.{Memory, Device, Damaged}

-- the item is one that a database may have, and this is how it is spelled
pub record IsSpelled {X S : Type 0} (IsValid : X → Type 0) (spell : X → S) (record_format : S) (x : X) : Type 0 where
  pub valid : IsValid x
  pub spelled : spell x ≡ record_format

-- the item with this spelling, or Damaged where it is the spelling of none. An allocation may always fail; no device is read
abbrev pub Decodes : {X S : Type 0} → (X → Type 0) → (X → S) → S → Result X Fault → Type 0
Decodes IsValid spell record_format (Ok x) = IsSpelled IsValid spell record_format x
Decodes IsValid spell record_format (Err Memory) = Unit {0}
Decodes IsValid spell record_format (Err Device) = ⊥
Decodes {X} IsValid spell record_format (Err Damaged) = (x : X) → IsSpelled IsValid spell record_format x → ⊥

-- the bytes begin with the spelling of the item, and these are the others
pub record IsFront {X : Type 0} (IsValid : X → Type 0) (spell : X → List ℕ) (bytes : List ℕ) (x : X) (rest : List ℕ) : Type 0 where
  pub valid : IsValid x
  pub spelled : bytes ≡ spell x ++ rest

-- no item and no rest but these
abbrev pub IsOnlyFront : {X : Type 0} → (X → Type 0) → (X → List ℕ) → List ℕ → X → List ℕ → Type 0
IsOnlyFront {X} IsValid spell bytes x rest = (y : X) (other : List ℕ) → IsFront IsValid spell bytes y other → (x ≡ y) × (rest ≡ other)

-- the item with whose spelling the bytes begin, and the bytes after it, or Damaged where they begin with none
abbrev pub DecodesFront : {X : Type 0} → (X → Type 0) → (X → List ℕ) → List ℕ → Result (X × Bor (List ℕ)) Fault → Type 0
DecodesFront IsValid spell bytes (Ok r) = IsFront IsValid spell bytes r.0 r.1.now × IsOnlyFront IsValid spell bytes r.0 r.1.now
DecodesFront IsValid spell bytes (Err Memory) = Unit {0}
DecodesFront IsValid spell bytes (Err Device) = ⊥
DecodesFront {X} IsValid spell bytes (Err Damaged) = (x : X) (rest : List ℕ) → IsFront IsValid spell bytes x rest → ⊥
