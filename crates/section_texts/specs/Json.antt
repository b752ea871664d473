-- Sections as JSON (RFC 8259).
use Rattle.std.specs.Prelude.{ℕ, Bool, true, false, List, [], ◌∷◌, ◌++◌, codes}
use Rattle.serde_json.specs.Data.{string}
use Rattle.serde_json.specs.Written.{compact_text}
use Rattle.section_texts.specs.Cells.{separated}
use Rattle.section_texts.specs.Sections.{CellOf, text, flag, names, ways, everyone, absent, RowOf, SectionOf}

abbrev pub json_string : List ℕ → List ℕ
json_string t = compact_text (string t)

-- names with a comma between two, and one before the first where something stands before
abbrev pub json_names_behind : Bool → List (List ℕ) → List ℕ
json_names_behind later [] = []
json_names_behind later (n ∷ ns) = separated later (codes ", ") ++ (json_string n ++ json_names_behind true ns)

-- memberships, each as a list of its member and the role that it is in
abbrev pub json_ways_behind : Bool → List (List ℕ × List ℕ) → List ℕ
json_ways_behind later [] = []
json_ways_behind later (w ∷ ws) = separated later (codes ", ") ++ (codes "[" ++ (json_string w.0 ++ (codes ", " ++ (json_string w.1 ++ (codes "]" ++ json_ways_behind true ws)))))

abbrev pub json_cell : CellOf → List ℕ
json_cell (text t) = json_string t
json_cell (flag true) = codes "true"
json_cell (flag false) = codes "false"
json_cell (names ns) = codes "[" ++ (json_names_behind false ns ++ codes "]")
json_cell (ways ws) = codes "[" ++ (json_ways_behind false ws ++ codes "]")
json_cell everyone = codes "null"
json_cell absent = codes "null"

-- a member for each cell, under the name of its column
abbrev pub json_members_behind : Bool → List (List ℕ) → RowOf → List ℕ
json_members_behind later [] cells = []
json_members_behind later (c ∷ cs) [] = []
json_members_behind later (c ∷ cs) (d ∷ ds) = separated later (codes ", ") ++ (codes "\"" ++ (c ++ (codes "\": " ++ (json_cell d ++ json_members_behind true cs ds))))

-- a row on a line of its own
abbrev pub json_row : List (List ℕ) → RowOf → List ℕ
json_row columns cells = codes "\n    {" ++ (json_members_behind false columns cells ++ codes "}")

abbrev pub json_rows_behind : Bool → List (List ℕ) → List RowOf → List ℕ
json_rows_behind later columns [] = []
json_rows_behind later columns (r ∷ rs) = separated later (codes ",") ++ (json_row columns r ++ json_rows_behind true columns rs)

abbrev pub json_section : SectionOf → List ℕ
json_section s = codes "\n  \"" ++ (s.name ++ (codes "\": [" ++ (json_rows_behind false s.columns s.rows ++ codes "\n  ]")))

abbrev pub json_sections_behind : Bool → List SectionOf → List ℕ
json_sections_behind later [] = []
json_sections_behind later (s ∷ ss) = separated later (codes ",") ++ (json_section s ++ json_sections_behind true ss)

-- one object: under the name of each section a list of its rows
abbrev pub json_text : List SectionOf → List ℕ
json_text sections = codes "{" ++ (json_sections_behind false sections ++ codes "\n}\n")
