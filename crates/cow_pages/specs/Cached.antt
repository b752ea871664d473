-- Pages of the device that the cache holds.
use Rattle.std.specs.Prelude.{◌≡◌, ◌≤◌, ℕ, List, Some}
use Rattle.page_cache.specs.declared.cache.PageCache.{PageCache}
use Rattle.page_cache.specs.Held.{held_bytes}
use Rattle.sector_device.specs.Device.{Image}
use Rattle.cow_pages.specs.Image.{bytes_of_page}

-- the bytes that the cache holds of a page are those of the image, for each page but page 0, where the roots are
abbrev pub AgreesWith : PageCache → Image → Type 0
AgreesWith cache image = (page : ℕ) (bytes : List ℕ) → 1 ≤ page → held_bytes cache page ≡ Some bytes → bytes_of_page image page ≡ bytes
