-- How many pages a copy wants at least.
use Rattle.std.specs.Prelude.{◌≡◌, ◌+◌, ℕ, if◌then◌else◌, nat_lt, [], ◌∷◌, length, min, max}
use Rattle.store.specs.Records.{Record, Records}
use Rattle.store.specs.declared.fault.Fault.TheVariants as read
use Rattle.store.specs.declared.fault.StoreFault.TheVariants as write
use Rattle.copies.specs.declared.fault.CopyFault.{CopyFault}
use Rattle.copies.specs.declared.fault.CopyFault.TheVariants.{Read, Write, Full}

-- the bytes of a record in a leaf: those of two lengths, of its key and of its value, of sizes that a store takes
abbrev pub cell_size : Record → ℕ
cell_size e = 4 + (min (length e.0) 205 + min (length e.1) 1200)

-- a cell behind so many bytes of cells in a leaf, which has room for 4,092: how many leaves are begun for it, and the bytes in the last one then
abbrev pub placed : ℕ → ℕ → ℕ × ℕ
placed used cell = if nat_lt 4092 (used + cell) then (1, cell) else (0, used + cell)

-- how many leaves are begun for these records, one after the other, behind so many bytes in a leaf
abbrev pub begun_for : ℕ → Records → ℕ
begun_for used [] = 0
begun_for used (e ∷ es) = let p = placed used (cell_size e) in p.0 + begun_for p.1 es

-- how many leaves these records fill, one after the other
abbrev pub leaves_of : Records → ℕ
leaves_of records = 1 + begun_for 0 records

-- how many pages a copy of these records wants at least, where so many were too few: their leaves, the page of the roots and one of the map
abbrev pub wanted : ℕ → Records → ℕ
wanted pages records = max (leaves_of records + 2) (pages + 1)

-- the fault of a copy that found no room on so many pages tells how many it wants, unless they were not counted: the source failed, or an allocation
abbrev pub TellsWanted : ℕ → Records → CopyFault → Type 0
TellsWanted pages records (Full least) = least ≡ wanted pages records
TellsWanted pages records (Read read.Device) = Unit {0}
TellsWanted pages records (Write write.Memory) = Unit {0}
TellsWanted pages records fault = ⊥
