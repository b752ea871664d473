-- What a root says, and its one spelling.
use Rattle.std.specs.Prelude.{◌≡◌, ◌<◌, ◌≤◌, ◌-◌, ◌*◌, ◌%◌, ◌^◌, ℕ, List, ◌++◌, All, codes, length, take, replicate}
use Rattle.page_roots.specs.declared.format.Format.{Format}
use Rattle.page_roots.specs.Formats.{number_of}
use Rattle.byteorder.specs.Endian.{big_bytes}
use Rattle.page_roots.specs.Numbers.{bytes_of_numbers}

-- the format is that of the records; the number of a root rises by one a commit; pages is the number of pages of the device; maps are the physical pages
-- of the map pages, in order
pub record RootFields : Type 0 where
  pub format : Format
  pub number : ℕ
  pub pages : ℕ
  pub maps : List ℕ

-- the fields of a root that holds its map pages at the front of a longer list
abbrev pub fields_of : Format → ℕ → ℕ → List ℕ → ℕ → RootFields
fields_of format number pages maps count = record { format = format; number = number; pages = pages; maps = take count maps }

-- the sector that a root of this number stands in
abbrev pub home : ℕ → ℕ
home number = number % 2

-- what a root sector begins with
abbrev pub magic : List ℕ
magic = codes "GUARDDB1"

-- the 512 bytes of a root: magic, format, pages, number, count of map pages, map pages, zeros
unfoldable pub root_bytes : RootFields → List ℕ
root_bytes root = magic ++ (big_bytes 4 (number_of root.format) ++ (big_bytes 4 root.pages ++ (big_bytes 8 root.number
    ++ (big_bytes 4 (length root.maps) ++ (bytes_of_numbers root.maps ++ replicate (484 - 4 * length root.maps) 0)))))

-- a root that may stand in this sector: its number is at least 1 and of the sector's parity, it has 1 to 64 map pages,
-- and each number fits its field
pub record IsRootOf (sector : ℕ) (root : RootFields) : Type 0 where
  pub first : 1 ≤ root.number
  pub parity : home root.number ≡ sector
  pub some_maps : 1 ≤ length root.maps
  pub most_maps : length root.maps ≤ 64
  pub number_fits : root.number < 2 ^ 64
  pub pages_fit : root.pages < 2 ^ 32
  pub maps_fit : All (λ page. page < 2 ^ 32) root.maps
