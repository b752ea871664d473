-- A journal that was read.
use Rattle.std.specs.Prelude.{◌≡◌, ◌≤◌, ◌⊎◌, ◌-◌, ◌%◌, length, ℕ, List, [], map, take, drop, get_or, nat_lt, if◌then◌else◌}
use Rattle.std.specs.List.{AllByRecursion}
use Rattle.journal.specs.Chain.{Part, Sector, Region, Entry, Blank, Holds, IsWhole, end_of}
use Rattle.journal.specs.Journal.{IsJournal, IsGreatest}
use Rattle.journal.specs.Sectors.{sector_at}
use Rattle.journal.specs.Records.{entry_of}
use Rattle.journal.specs.declared.sector.SectorTag.{SectorTag}
use Rattle.journal.specs.declared.journal.Journal.{Journal}
use Rattle.journal.specs.declared.journal.JournalRecord.{JournalRecord}

-- the records
abbrev pub entries_of : List JournalRecord → List Entry
entries_of records = map (λ (r : JournalRecord). entry_of r.number r.bytes.items) records

-- the bytes of each record are those of whole parts
abbrev pub AreWhole : List JournalRecord → Type 0
AreWhole records = AllByRecursion (λ (r : JournalRecord). length r.bytes.items % 488 ≡ 0) records

-- what was read is the journal of the root, the greatest number in its sectors, and the place behind its records
pub record IsReadAs (journal : Journal) (root room : ℕ) (region : Region) : Type 0 where
  pub is : IsJournal region root room (entries_of journal.records.items)
  pub top : IsGreatest journal.top region
  pub end : end_of 0 (entries_of journal.records.items) ≡ journal.end
  pub whole : AreWhole journal.records.items

-- what these sectors say, so many of them
abbrev pub region_of : ℕ → List (List ℕ) → Region
region_of room sectors q = if nat_lt q room then sector_at room (get_or sectors q []) else Blank

-- the part of an index of the record of a tag
abbrev pub part_under : SectorTag → ℕ → List ℕ → Part
part_under tag index bytes = record { root = tag.root; number = tag.number; index = index; count = tag.count; bytes = bytes }

-- a record of the root begins in this sector, with this tag
pub record BeginsWith (root room : ℕ) (tag : SectorTag) (sector : List ℕ) : Type 0 where
  pub is : sector_at room sector ≡ Holds (part_under tag 0 (drop 24 sector))
  pub of_root : tag.root ≡ root
  pub some : 1 ≤ tag.count

-- the number of the part in a sector, or 0 where there is none
pub record IsNumberIn (number : ℕ) (sector : Sector) : Type 0 where
  pub up_to : (part : Part) → sector ≡ Holds part → part.number ≤ number
  pub reached : (number ≡ 0) ⊎ ((part : Part) × (sector ≡ Holds part) × (part.number ≡ number))

-- the bytes behind the tags of so many sectors from a place on
abbrev pub parts_at : ℕ → ℕ → List (List ℕ) → List (List ℕ)
parts_at count place sectors = map (λ (sector : List ℕ). drop 24 sector) (take count (drop place sectors))

-- the record of a number whose parts are there
abbrev pub entry_in : ℕ → ℕ → ℕ → List (List ℕ) → Entry
entry_in number count place sectors = record { number = number; parts = parts_at count place sectors }

-- the record of a tag is whole in these sectors, from a place on
pub record IsRecordAt (root last room : ℕ) (sectors : List (List ℕ)) (place : ℕ) (tag : SectorTag) : Type 0 where
  pub some : 1 ≤ tag.count
  pub fits : tag.count ≤ room - place
  pub whole : IsWhole (region_of room sectors) root last place (room - place) (entry_in tag.number tag.count place sectors)
