-- What the bytes of a root sector say.
use Rattle.std.specs.Prelude.{◌==◌, ℕ, List, Bool, ◌&&◌, take, drop, replicate, nat_le, if◌then◌else◌}
use Rattle.std.specs.Str.{bytes_eq}
use Rattle.page_roots.specs.Formats.{format_in}
use Rattle.byteorder.specs.Endian.{big_number}
use Rattle.page_roots.specs.Numbers.{numbers_in}
use Rattle.page_roots.specs.Root.{RootFields, home, magic, root_bytes}
use Rattle.page_roots.specs.declared.sector.RootSector.{RootSector}
use Rattle.page_roots.specs.declared.sector.RootSector.TheVariants.{Empty, Found, Malformed}

-- a sector of zeros
abbrev pub zeros : List ℕ
zeros = replicate 512 0

-- the bytes begin with the magic of a root
abbrev pub begins_with_magic : List ℕ → Bool
begins_with_magic bytes = bytes_eq (take 8 bytes) magic

-- how many map pages the bytes name
abbrev pub maps_named : List ℕ → ℕ
maps_named bytes = big_number 4 (drop 24 bytes)

-- the fields of a root where they stand in the bytes
unfoldable pub fields_in : List ℕ → RootFields
fields_in bytes = record {
  format = format_in (big_number 4 (drop 8 bytes));
  number = big_number 8 (drop 16 bytes);
  pages = big_number 4 (drop 12 bytes);
  maps = numbers_in (maps_named bytes) (drop 28 bytes);
}

-- a number of map pages, a number and a parity that a root of this sector may have
abbrev pub may_stand : ℕ → List ℕ → Bool
may_stand sector bytes = nat_le 1 (maps_named bytes) && (nat_le (maps_named bytes) 64
    && (nat_le 1 (big_number 8 (drop 16 bytes)) && (home (big_number 8 (drop 16 bytes)) == sector)))

-- A root sector is empty where it is all zero, and well formed where it is the spelling of the root that it names and
-- this root may stand in it.
unfoldable pub root_at : ℕ → List ℕ → RootSector
root_at sector bytes =
    if bytes_eq bytes zeros then Empty
    else (if may_stand sector bytes && bytes_eq bytes (root_bytes (fields_in bytes)) then Found (fields_in bytes) else Malformed)
