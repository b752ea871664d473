-- What a stop may leave while a new array is made.
use Rattle.std.specs.Prelude.{◌≡◌, ◌≢◌, ◌<◌, ◌/◌, ◌⊎◌, ℕ, List, [], ◌∷◌, Some, false, replicate}
use Rattle.sector_device.specs.Device.{DeviceState, Image, IsLeft}
use Rattle.page_roots.specs.declared.format.Format.{Format}
use Rattle.page_roots.specs.Root.{RootFields, root_bytes}
use Rattle.page_roots.specs.Sector.{root_at, begins_with_magic, zeros}
use Rattle.page_roots.specs.MapPage.{entries_in, map_page_bytes}
use Rattle.page_roots.specs.declared.sector.RootSector.TheVariants.{Found}
use Rattle.cow_pages.specs.Image.{bytes_of_page, first_fault, one_page, Means}
use Rattle.cow_pages.specs.declared.open.OpenFault.TheVariants.{NotADatabase}

-- neither root sector begins with the magic of a root
abbrev pub IsUnmarked : Image → Type 0
IsUnmarked image = (s : ℕ) → s < 2 → begins_with_magic (image s) ≡ false

-- a stop leaves no root sector that begins with the magic of a root, as on a new device of zeros
abbrev pub IsBlank : DeviceState → Type 0
IsBlank d = (s : ℕ) → s < 2 → (c : List ℕ) → d.left s c → begins_with_magic c ≡ false

-- the bytes of sector 1 are those of this root, and are read as it
pub record IsFirstRoot (root : RootFields) (bytes : List ℕ) : Type 0 where
  pub spelled : bytes ≡ root_bytes root
  pub read : root_at 1 bytes ≡ Found root

-- the content of the device, but with this root in sector 1
pub record HasRoot (d : DeviceState) (root : RootFields) (image : Image) : Type 0 where
  pub here : root_at 1 (image 1) ≡ Found root
  pub others : (s : ℕ) → s < d.sectors → s ≢ 1 → image s ≡ d.content s

-- what a stop might have left of the device, or its content with this root in sector 1
abbrev pub IsLeftOrHasRoot : DeviceState → RootFields → Image → Type 0
IsLeftOrHasRoot d root image = IsLeft d image ⊎ HasRoot d root image

-- no database yet, or the whole array whose logical page 0 alone is in use and has these bytes
abbrev pub IsNoneOrFirst : ℕ → Format → List ℕ → Image → Type 0
IsNoneOrFirst sectors format first image = (first_fault sectors image ≡ Some NotADatabase) ⊎ Means (sectors / 8) format 1 (one_page first) image

-- the first root: its map page is physical page 2
abbrev pub first_root : ℕ → Format → RootFields
first_root pages format = record { format = format; number = 1; pages = pages; maps = 2 ∷ [] }

-- the entries of its map page: logical page 0 has physical page 1, and no other is in use
abbrev pub first_entries : List ℕ
first_entries = 1 ∷ replicate 1023 0

-- the bytes that a new array is made of: an empty root sector, the first root, the first logical page, and its map page
pub record HasFirstBytes (pages : ℕ) (format : Format) (first : List ℕ) (image : Image) : Type 0 where
  pub even : image 0 ≡ zeros
  pub odd : image 1 ≡ root_bytes (first_root pages format)
  pub page : bytes_of_page image 1 ≡ first
  pub map : bytes_of_page image 2 ≡ map_page_bytes first_entries

-- all of it but the root, which is written last
pub record HasFirstPages (first : List ℕ) (image : Image) : Type 0 where
  pub even : image 0 ≡ zeros
  pub page : bytes_of_page image 1 ≡ first
  pub map : bytes_of_page image 2 ≡ map_page_bytes first_entries
  pub entries : entries_in (bytes_of_page image 2) ≡ first_entries
