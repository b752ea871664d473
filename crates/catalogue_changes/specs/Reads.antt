-- What a walk that removes the records of a table's rows does.
use Rattle.std.specs.Prelude.{◌≡◌, Bool, true, false, [], ◌∷◌, Result, Ok, Err}
use Rattle.std.specs.List.{AllByRecursion}
use Rattle.store.specs.declared.fault.Fault.{Fault}
use Rattle.store.specs.declared.fault.Fault.TheVariants.{Memory, Device, Damaged}
use Rattle.store.specs.Records.{Record, Records, Changes, IsKeySize}
use Rattle.store.specs.Walks.{Walk, left}
use Rattle.catalogue_changes.specs.Differences.{removal}
use Rattle.catalogue_changes.specs.Entries.{Adds}

-- each key has a size that a store takes
abbrev pub HaveKeySizes : Records → Type 0
HaveKeySizes records = AllByRecursion (λ (e : Record). IsKeySize e.0) records

-- the next record that a walk finds is removed
pub record IsNextRemoved (old new : Walk) (records : Records) (before after : Changes) : Type 0 where
  pub found : left old records ≡ new.entry ∷ left new records
  pub removed : Adds (removal new.entry ∷ []) before after

-- no record is left to a walk, and nothing is removed
pub record IsAtEnd (walk : Walk) (records : Records) (before after : Changes) : Type 0 where
  pub none : left walk records ≡ []
  pub same : after ≡ before

-- the first record that is left to a walk has a key of no size that a store takes
abbrev pub IsStuck : Walk → Records → Type 0
IsStuck walk records = (e : Record) × (rest : Records) × (left walk records ≡ e ∷ rest) × (IsKeySize e.0 → ⊥)

-- a step of a walk that removes what it finds
abbrev pub RemovesNext : Result Bool Fault → Walk → Walk → Records → Changes → Changes → Type 0
RemovesNext (Ok true) old new records before after = IsNextRemoved old new records before after
RemovesNext (Ok false) old new records before after = IsAtEnd old records before after
RemovesNext (Err Memory) old new records before after = Unit {0}
RemovesNext (Err Device) old new records before after = Unit {0}
RemovesNext (Err Damaged) old new records before after = IsStuck old records
