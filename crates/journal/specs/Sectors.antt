-- The sectors of a journal by their bytes: a tag, and a part of a record behind it. All numbers are big-endian.
use Rattle.std.specs.Prelude.{◌≡◌, ◌≤◌, ◌<◌, ◌^◌, ℕ, List, Bool, ◌++◌, ◌&&◌, codes, length, take, drop, replicate, nat_le, nat_lt, if◌then◌else◌}
use Rattle.std.specs.Str.{bytes_eq}
use Rattle.byteorder.specs.Endian.{big_number, big_bytes}
use Rattle.journal.specs.Chain.{Part, Sector, Blank, Holds, Malformed}
use Rattle.journal.specs.Journal.{IsInRange}
use Rattle.journal.specs.declared.sector.SectorTag.{SectorTag}
use Rattle.journal.specs.declared.sector.JournalSector.{JournalSector}
use Rattle.journal.specs.declared.sector.JournalSector.TheVariants as sector

-- what a sector with a part begins with
abbrev pub magic : List ℕ
magic = codes "GDBJ"

-- a sector of zeros
abbrev pub zeros : List ℕ
zeros = replicate 512 0

-- the 512 bytes of a part: magic, root, number, index and count, and the part's own bytes
unfoldable pub sector_bytes : Part → List ℕ
sector_bytes part = magic ++ (big_bytes 8 part.root ++ (big_bytes 8 part.number ++ (big_bytes 2 part.index ++ (big_bytes 2 part.count ++ part.bytes))))

-- a part that may stand in a journal of so many sectors: its root is at least 1, it is in range, it is 488 bytes long, and
-- each number fits its field
pub record IsPart (room : ℕ) (part : Part) : Type 0 where
  pub first : 1 ≤ part.root
  pub in_range : IsInRange room part
  pub long : length part.bytes ≡ 488
  pub root_fits : part.root < 2 ^ 64
  pub number_fits : part.number < 2 ^ 64
  pub count_fits : part.count < 2 ^ 16

-- the bytes begin with the magic of a part
abbrev pub begins_with_magic : List ℕ → Bool
begins_with_magic bytes = bytes_eq (take 4 bytes) magic

-- the part whose fields stand in the bytes
unfoldable pub part_at : List ℕ → Part
part_at bytes = record {
  root = big_number 8 (drop 4 bytes);
  number = big_number 8 (drop 12 bytes);
  index = big_number 2 (drop 20 bytes);
  count = big_number 2 (drop 22 bytes);
  bytes = drop 24 bytes;
}

-- a root and a range that a part may have in a journal of so many sectors
abbrev pub may_be : ℕ → Part → Bool
may_be room part = nat_le 1 part.root && (nat_lt part.index part.count && nat_le part.count room)

-- What the bytes of a sector say in a journal of so many sectors.
unfoldable pub sector_at : ℕ → List ℕ → Sector
sector_at room bytes =
    if bytes_eq bytes zeros then Blank
    else (if begins_with_magic bytes && may_be room (part_at bytes) then Holds (part_at bytes) else Malformed)

-- a tag and the bytes behind it
abbrev pub part_with : SectorTag → List ℕ → Part
part_with tag bytes = record { root = tag.root; number = tag.number; index = tag.index; count = tag.count; bytes = bytes }

-- what was read of these bytes
abbrev pub says : JournalSector → List ℕ → Sector
says sector.Blank bytes = Blank
says (sector.Part tag) bytes = Holds (part_with tag (drop 24 bytes))
says sector.Malformed bytes = Malformed
