-- Records by the bytes of all their parts.
use Rattle.std.specs.Prelude.{◌/◌, ℕ, zero, suc, List, [], ◌∷◌, length, take, drop}
use Rattle.journal.specs.Chain.{Entry}

-- the first so many parts of these bytes, of 488 each
abbrev pub parts_of : ℕ → List ℕ → List (List ℕ)
parts_of zero bytes = []
parts_of (suc count) bytes = take 488 bytes ∷ parts_of count (drop 488 bytes)

-- the record of a number whose parts have these bytes
abbrev pub entry_of : ℕ → List ℕ → Entry
entry_of number bytes = record { number = number; parts = parts_of (length bytes / 488) bytes }
