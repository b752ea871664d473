-- A mark below a place of a text.
use Rattle.std.specs.Prelude.{ℕ, List, [], ◌∷◌, ◌++◌, ◌==◌, ◌||◌, codes, flat_map, nat_lt, nat_le, take, if◌then◌else◌}

-- what stands below a byte: a tab below a tab, nothing below the later bytes of a character, and else a space
abbrev pub space_below : ℕ → List ℕ
space_below byte = (if byte == 9 then codes "\t" else (if nat_lt byte 128 || nat_le 192 byte then codes " " else []))

abbrev pub spaces : List ℕ → List ℕ
spaces bytes = flat_map space_below bytes

-- a text, and below it a mark at a place
abbrev pub marked : List ℕ → ℕ → List ℕ
marked text place = codes "    " ++ (text ++ (codes "\n    " ++ (spaces (take place text) ++ codes "^\n")))
