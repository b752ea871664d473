-- Sections as text in columns.
use Rattle.std.specs.Prelude.{ℕ, Bool, true, false, ◌+◌, ◌-◌, ◌==◌, max, if◌then◌else◌, List, [], ◌∷◌, ◌++◌, codes, map, flat_map, length, replicate}
use Rattle.section_texts.specs.Sections.{CellOf, RowOf, SectionOf}
use Rattle.section_texts.specs.Cells.{separated, shown_cell}

-- the texts of a row
abbrev pub TextsOf : Type 0
TextsOf = List (List ℕ)

abbrev pub shown_row : RowOf → TextsOf
shown_row cells = map shown_cell cells

-- how long the text at a place is: 0, where the row has none
abbrev pub length_at : ℕ → TextsOf → ℕ
length_at i [] = 0
length_at i (t ∷ ts) = if i == 0 then length t else length_at (i - 1) ts

-- the greatest length at a place, at least so much
abbrev pub width_at : ℕ → ℕ → List TextsOf → ℕ
width_at i least [] = least
width_at i least (row ∷ rows) = width_at i (max least (length_at i row)) rows

-- how wide each column is, from a place on: as its widest text
abbrev pub widths_from : ℕ → TextsOf → List TextsOf → List ℕ
widths_from i [] rows = []
widths_from i (head ∷ heads) rows = width_at i (length head) rows ∷ widths_from (i + 1) heads rows

-- a line of a table: two blanks before each text, and before that as many as the one before lacks to the width of its column
abbrev pub table_line : ℕ → List ℕ → TextsOf → List ℕ
table_line lacks [] texts = codes "\n"
table_line lacks (w ∷ ws) [] = codes "\n"
table_line lacks (w ∷ ws) (t ∷ ts) = replicate lacks 32 ++ (codes "  " ++ (t ++ table_line (w - length t) ws ts))

-- rows under their heads, each column as wide as its widest text
abbrev pub table_text : TextsOf → List TextsOf → List ℕ
table_text heads rows =
    let widths = widths_from 0 heads rows in
    table_line 0 widths heads ++ flat_map (table_line 0 widths) rows

-- the name of a section on a line of its own, and its rows
abbrev pub section_text : SectionOf → List ℕ
section_text s = s.name ++ (codes "\n" ++ table_text s.columns (map shown_row s.rows))

-- sections with an empty line between two, and one before the first where something stands before
abbrev pub sections_behind : Bool → List SectionOf → List ℕ
sections_behind later [] = []
sections_behind later (s ∷ ss) = separated later (codes "\n") ++ (section_text s ++ sections_behind true ss)

abbrev pub columns_text : List SectionOf → List ℕ
columns_text sections = sections_behind false sections
