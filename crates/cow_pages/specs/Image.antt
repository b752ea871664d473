-- What an image of sectors means: an array of logical pages, or the first fault that stands in it.
use Rattle.std.specs.Prelude.{◌≡◌, ◌≤◌, ◌==◌, ◌&&◌, ◌||◌, ◌*◌, ◌/◌, ◌%◌, ℕ, zero, suc, List, Option, Some, None, Bool, nat_le, true, slice_index, if◌then◌else◌}
use Rattle.sector_device.specs.Device.{Image}
use Rattle.sector_device.specs.Page.{page_at}
use Rattle.page_roots.specs.declared.format.Format.{Format}
use Rattle.page_roots.specs.Root.{RootFields}
use Rattle.page_roots.specs.Sector.{root_at, begins_with_magic}
use Rattle.page_roots.specs.Chosen.{IsChosen, chosen}
use Rattle.page_roots.specs.Later.{later_format}
use Rattle.page_roots.specs.MapPage.{map_of}
use Rattle.page_roots.specs.Reach.{IsSound, is_sound}
use Rattle.pages.specs.State.{Array}
use Rattle.cow_pages.specs.declared.open.OpenFault.{OpenFault}
use Rattle.cow_pages.specs.declared.open.OpenFault.TheVariants.{WrongSize, NotADatabase, NewerFormat, Damaged}

-- the bytes of a physical page
unfoldable pub bytes_of_page : Image → ℕ → List ℕ
bytes_of_page image page = page_at image (8 * page)

-- the map of a root: the entries of its map pages, one map page after the other
abbrev pub map_in : Image → List ℕ → List ℕ
map_in image maps = map_of (bytes_of_page image) maps

-- what an entry of a map stands for: 0 for no page, any other number for the physical page of that number
abbrev pub page_of : Image → ℕ → Option (List ℕ)
page_of image zero = None
page_of image (suc page) = Some (bytes_of_page image (suc page))

-- the array of a map: after its end no page is in use
abbrev pub array_of : Image → List ℕ → Array
array_of image entries l = page_of image (slice_index entries l)

-- the array whose logical page 0 alone is in use
abbrev pub one_page : List ℕ → Array
one_page bytes zero = Some bytes
one_page bytes (suc l) = None

-- The image of a device of so many pages stands for this array, in this format and under this number: its root of
-- greater number names the map of the array, and that root's reach is sound.
pub record Means (pages : ℕ) (format : Format) (number : ℕ) (array : Array) (image : Image) : Type 0 where
  pub root : RootFields
  pub chosen : IsChosen image root
  pub format_is : root.format ≡ format
  pub number_is : root.number ≡ number
  pub pages_is : root.pages ≡ pages
  pub sound : IsSound pages root.maps (map_in image root.maps)
  pub array_is : (l : ℕ) → array_of image (map_in image root.maps) l ≡ array l

-- 64 to 65,536 whole pages of 8 sectors
abbrev pub is_size : ℕ → Bool
is_size sectors = (sectors % 8 == 0) && (nat_le 64 (sectors / 8) && nat_le (sectors / 8) 65536)

-- so many sectors are so many whole pages, as many as a device may have
abbrev pub IsSizeOf : ℕ → ℕ → Type 0
IsSizeOf sectors pages = (is_size sectors ≡ true) × (sectors ≡ 8 * pages) × (64 ≤ pages) × (pages ≤ 65536)

-- no root is chosen: the image is of a later format, or damaged
abbrev pub fault_of_format : Option ℕ → OpenFault
fault_of_format None = Damaged
fault_of_format (Some format) = NewerFormat format

-- the first fault of the root that is chosen, or that none is
abbrev pub fault_of_root : ℕ → Image → Option RootFields → Option OpenFault
fault_of_root pages image None = Some (fault_of_format (later_format (image 0) (image 1)))
fault_of_root pages image (Some root) =
    if root.pages == pages then (if is_sound pages root.maps (map_in image root.maps) then None else Some Damaged)
    else Some WrongSize

-- the first fault of an image of so many pages
abbrev pub fault_of_image : ℕ → Image → Option OpenFault
fault_of_image pages image =
    if begins_with_magic (image 0) || begins_with_magic (image 1) then fault_of_root pages image (chosen (root_at 0 (image 0)) (root_at 1 (image 1)))
    else Some NotADatabase

-- The first fault that stands in an image of so many sectors, in this order: its size, the magic at the front of a
-- root sector, the root sectors, the size that the chosen root names, and its map. None where it means an array.
abbrev pub first_fault : ℕ → Image → Option OpenFault
first_fault sectors image = if is_size sectors then fault_of_image (sectors / 8) image else Some WrongSize
