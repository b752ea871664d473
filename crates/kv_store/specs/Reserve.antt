-- The pages that commits which take some leave free, so that a full device can be emptied.
use Rattle.std.specs.Prelude.{◌≡◌, ◌<◌, ◌≤◌, ◌+◌, ◌/◌, ◌^◌, ◌⊎◌, ℕ}
use Rattle.sector_device.specs.declared.device.Device.{Ghosts}
use Rattle.cow_pages.specs.declared.cow.CowPages.{CowPages}
use Rattle.cow_pages.specs.Cow.{root_of, durable_map}
use Rattle.cow_pages.specs.Free.{HasFreePages}
use Rattle.cow_pages.specs.Used.{grown}
use Rattle.kv_store.specs.declared.reserve.Reserve.{Reserve}
use Rattle.kv_store.specs.declared.reserve.Reserve.TheVariants.{Kept, Open}

-- A device of so many pages has this reserve: a page for each level of the highest tree that stands in fewer pages, whose inner
-- nodes have two children at least, and one for each map page.
pub record IsReserve (pages reserve : ℕ) : Type 0 where
  pub levels : ℕ
  pub least : 2 ^ levels ≤ pages
  pub most : pages < 2 ^ (levels + 1)
  pub reserve_is : reserve ≡ levels + (pages / 1024 + 1)

-- where so many pages of a device are free, and so many more come into use, the reserve is left beside these
pub record LeavesReserve (pages free more : ℕ) : Type 0 where
  pub reserve : ℕ
  pub is_reserve : IsReserve pages reserve
  pub enough : more + reserve ≤ free

-- some of it is taken
pub record TakesReserve (pages free more : ℕ) : Type 0 where
  pub some : 0 < more
  pub reserve : ℕ
  pub is_reserve : IsReserve pages reserve
  pub few : free < more + reserve

-- a commit that is to keep the reserve leaves it, unless no more pages come into use
abbrev pub Spares : Reserve → ℕ → ℕ → ℕ → Type 0
Spares Kept pages free more = (more ≡ 0) ⊎ LeavesReserve pages free more
Spares Open pages free more = Unit {0}

-- so does the commit that has made the new map the durable one, of the pages that were free before it
abbrev pub KeepsReserve : {D : Type 0} {g : Ghosts D} → Reserve → CowPages D g → CowPages D g → Type 0
KeepsReserve Kept old new = (grown (durable_map old) (durable_map new) ≡ 0)
    ⊎ ((free : ℕ) × HasFreePages free old × LeavesReserve (root_of old).pages free (grown (durable_map old) (durable_map new)))
KeepsReserve Open old new = Unit {0}
