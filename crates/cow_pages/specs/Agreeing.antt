-- Images that agree on all that an array is read from.
use Rattle.std.specs.Prelude.{◌≡◌, ◌<◌, ℕ}
use Rattle.sector_device.specs.Device.{Image}
use Rattle.page_roots.specs.Root.{RootFields}
use Rattle.page_roots.specs.Reach.{InReach}
use Rattle.cow_pages.specs.Image.{bytes_of_page, map_in}

-- both have the same root sectors, and the same bytes in each page of the reach that this root has in the first one
pub record AgreesOn (root : RootFields) (image other : Image) : Type 0 where
  pub roots : (s : ℕ) → s < 2 → other s ≡ image s
  pub reach : (page : ℕ) → InReach root.maps (map_in image root.maps) page → bytes_of_page other page ≡ bytes_of_page image page
