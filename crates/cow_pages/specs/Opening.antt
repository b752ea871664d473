-- What opening finds.
use Rattle.std.specs.Prelude.{◌≡◌, ◌⊎◌, ◌||◌, ℕ, List, Option, Some, None, Result, Ok, Err, length, true}
use Rattle.sector_device.specs.Device.{DeviceState, HasFailed}
use Rattle.page_roots.specs.Root.{RootFields}
use Rattle.page_roots.specs.Sector.{root_at, begins_with_magic}
use Rattle.page_roots.specs.Chosen.{chosen}
use Rattle.page_roots.specs.Reach.{IsSound}
use Rattle.cow_pages.specs.declared.open.OpenFault.{OpenFault}
use Rattle.cow_pages.specs.declared.open.OpenFault.TheVariants.{WrongSize, NotADatabase, NewerFormat, Damaged, Device, Memory}
use Rattle.cow_pages.specs.PageMap.{EndsWith}

-- A fault that is named stands in the content: it is the first one. That the device failed says nothing of the content.
-- Memory is asked for after the size and the magic are tested, so the first fault is none then, or that something is damaged.
abbrev pub IsNamedFor : OpenFault → Option OpenFault → Type 0
IsNamedFor WrongSize first = first ≡ Some WrongSize
IsNamedFor NotADatabase first = first ≡ Some NotADatabase
IsNamedFor (NewerFormat format) first = first ≡ Some (NewerFormat format)
IsNamedFor Damaged first = first ≡ Some Damaged
IsNamedFor Device first = Unit {0}
IsNamedFor Memory first = (first ≡ None) ⊎ (first ≡ Some Damaged)

-- what a call answered names the first fault; where it succeeded there is none
abbrev pub NamesFault : {T : Type 0} → Result T OpenFault → Option OpenFault → Type 0
NamesFault (Ok x) first = first ≡ None
NamesFault (Err fault) first = IsNamedFor fault first

-- a read of pages is refused for no other reason than that the device failed, or an allocation
abbrev pub IsOfReading : OpenFault → DeviceState → DeviceState → Type 0
IsOfReading WrongSize old new = ⊥
IsOfReading NotADatabase old new = ⊥
IsOfReading (NewerFormat format) old new = ⊥
IsOfReading Damaged old new = ⊥
IsOfReading Device old new = HasFailed old new
IsOfReading Memory old new = Unit {0}

-- the entries are a sound map of the root, with one for each logical page that a map may have
pub record IsMapOf (root : RootFields) (entries : List ℕ) : Type 0 where
  pub count : length entries ≡ 65536
  pub sound : IsSound root.pages root.maps entries
  pub ended : EndsWith root.maps entries

-- the root sectors hold a root for a device of so many pages
pub record IsRootFound (pages : ℕ) (even odd : List ℕ) (root : RootFields) : Type 0 where
  pub marked : (begins_with_magic even || begins_with_magic odd) ≡ true
  pub chosen : chosen (root_at 0 even) (root_at 1 odd) ≡ Some root
  pub pages_is : root.pages ≡ pages
