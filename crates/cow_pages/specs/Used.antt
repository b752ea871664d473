-- How many pages are in use.
use Rattle.std.specs.Prelude.{◌+◌, ◌-◌, ℕ, zero, suc, List, length, slice_index}

-- one for an entry that names a page, and nothing for 0
abbrev pub named : ℕ → ℕ
named zero = 0
named (suc page) = 1

-- how many of the first entries of a map name a page, so many
abbrev pub named_below : ℕ → List ℕ → ℕ
named_below zero entries = 0
named_below (suc n) entries = named_below n entries + named (slice_index entries n)

-- how many logical pages are in use in a map
abbrev pub used_in : List ℕ → ℕ
used_in entries = named_below (length entries) entries

-- how many more are in use in the second of two maps than in the first, 0 where they are not more
abbrev pub grown : List ℕ → List ℕ → ℕ
grown before after = used_in after - used_in before
