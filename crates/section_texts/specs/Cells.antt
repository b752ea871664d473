-- How a cell is written where it is read.
use Rattle.std.specs.Prelude.{ℕ, Bool, true, false, not, ◌&&◌, ◌||◌, ◌==◌, ◌+◌, ◌-◌, ◌/◌, ◌%◌, List, [], ◌∷◌, ◌++◌, codes, flat_map, bytes_eq, nat_lt, nat_le, if◌then◌else◌}
use Rattle.section_texts.specs.Sections.{CellOf, text, flag, names, ways, everyone, absent}

-- a letter, a digit or `_`
abbrev pub is_plain_byte : ℕ → Bool
is_plain_byte b = (nat_le 97 b && nat_le b 122) || (nat_le 65 b && nat_le b 90) || (nat_le 48 b && nat_le b 57) || b == 95

abbrev pub all_are_plain : List ℕ → Bool
all_are_plain [] = true
all_are_plain (b ∷ bs) = is_plain_byte b && all_are_plain bs

-- a text that stands without quotes: no name is read as PUBLIC then
abbrev pub is_plain : List ℕ → Bool
is_plain [] = false
is_plain (b ∷ bs) = not (bytes_eq (b ∷ bs) (codes "PUBLIC")) && all_are_plain (b ∷ bs)

abbrev pub hex_digit : ℕ → ℕ
hex_digit n = if nat_lt n 10 then 48 + n else 97 + (n - 10)

-- a byte between quotes: a quote and a backslash behind a backslash, a sign of ASCII as it is, and any other byte as `\x` with two digits
abbrev pub escaped_byte : ℕ → List ℕ
escaped_byte b =
    if b == 34 || b == 92 then 92 ∷ b ∷ []
    else (if nat_le 32 b && nat_lt b 127 then b ∷ []
    else 92 ∷ 120 ∷ hex_digit (b / 16) ∷ hex_digit (b % 16) ∷ [])

abbrev pub escaped : List ℕ → List ℕ
escaped bytes = flat_map escaped_byte bytes

abbrev pub shown_text : List ℕ → List ℕ
shown_text t = if is_plain t then t else 34 ∷ (escaped t ++ 34 ∷ [])

-- what separates two, where something stands before
abbrev pub separated : Bool → List ℕ → List ℕ
separated later separator = if later then separator else []

-- names with a comma between two, and one before the first where something stands before
abbrev pub shown_names_behind : Bool → List (List ℕ) → List ℕ
shown_names_behind later [] = []
shown_names_behind later (n ∷ ns) = separated later (codes ", ") ++ (shown_text n ++ shown_names_behind true ns)

abbrev pub shown_names : List (List ℕ) → List ℕ
shown_names ns = codes "(" ++ (shown_names_behind false ns ++ codes ")")

-- memberships, each as its member and the role that it is in, in the same way
abbrev pub shown_ways_behind : Bool → List (List ℕ × List ℕ) → List ℕ
shown_ways_behind later [] = []
shown_ways_behind later (w ∷ ws) = separated later (codes ", ") ++ (shown_text w.0 ++ (codes " in " ++ (shown_text w.1 ++ shown_ways_behind true ws)))

abbrev pub shown_ways : List (List ℕ × List ℕ) → List ℕ
shown_ways ws = codes "(" ++ (shown_ways_behind false ws ++ codes ")")

abbrev pub shown_cell : CellOf → List ℕ
shown_cell (text t) = shown_text t
shown_cell (flag true) = codes "yes"
shown_cell (flag false) = codes "no"
shown_cell (names ns) = shown_names ns
shown_cell (ways ws) = shown_ways ws
shown_cell everyone = codes "PUBLIC"
shown_cell absent = codes "-"
