-- Which of the two roots of an image is the root.
use Rattle.std.specs.Prelude.{◌≡◌, ◌<◌, ◌+◌, ◌⊎◌, ℕ, List, Option, Some, None, nat_lt, if◌then◌else◌}
use Rattle.page_roots.specs.Root.{RootFields, home}
use Rattle.page_roots.specs.Sector.{root_at}
use Rattle.page_roots.specs.declared.sector.RootSector.{RootSector}
use Rattle.page_roots.specs.declared.sector.RootSector.TheVariants.{Empty, Found, Malformed}

-- nothing, or a root of smaller number
abbrev pub IsOlder : RootSector → ℕ → Type 0
IsOlder Empty number = Unit {0}
IsOlder (Found root) number = root.number < number
IsOlder Malformed number = ⊥

-- the root of greater number: it stands in its own sector, and the other root sector is empty or holds an older root
pub record IsChosen (image : ℕ → List ℕ) (root : RootFields) : Type 0 where
  pub here : root_at (home root.number) (image (home root.number)) ≡ Found root
  pub other : IsOlder (root_at (home (root.number + 1)) (image (home (root.number + 1)))) root.number

-- one of the two root sectors is malformed, or both are empty
abbrev pub HasNoRoot : RootSector → RootSector → Type 0
HasNoRoot even odd = (even ≡ Malformed) ⊎ ((odd ≡ Malformed) ⊎ ((even ≡ Empty) × (odd ≡ Empty)))

-- the root of greater number of two root sectors, where neither is malformed and not both are empty
abbrev pub chosen : RootSector → RootSector → Option RootFields
chosen Malformed odd = None
chosen Empty Malformed = None
chosen (Found root) Malformed = None
chosen Empty Empty = None
chosen Empty (Found root) = Some root
chosen (Found root) Empty = Some root
chosen (Found root) (Found next) = if nat_lt next.number root.number then Some root else Some next
