-- A row as a line that stands by itself: what it is about, and what it says of that.
use Rattle.std.specs.Prelude.{ℕ, Bool, true, false, List, [], ◌∷◌, ◌++◌, codes, take, drop}
use Rattle.section_texts.specs.declared.line.LineTexts.{LineTexts}
use Rattle.std.specs.Prelude.{string_bytes}
use Rattle.section_texts.specs.Sections.{CellOf, RowOf, SectionOf}
use Rattle.section_texts.specs.Cells.{separated, shown_cell}

-- cells, each with the name of its column before it, and a comma between two, and one before the first where something stands before
abbrev pub named_cells : Bool → List (List ℕ) → RowOf → List ℕ
named_cells later [] cells = []
named_cells later (c ∷ cs) [] = []
named_cells later (c ∷ cs) (d ∷ ds) = separated later (codes ", ") ++ (c ++ (codes " " ++ (shown_cell d ++ named_cells true cs ds)))

-- the cells that say what the row is about
abbrev pub first_text : SectionOf → RowOf → List ℕ
first_text s cells = named_cells false (take s.keys s.columns) (take s.keys cells)

-- these behind the name of the section
abbrev pub subject_text : SectionOf → RowOf → List ℕ
subject_text s cells = s.name ++ (codes ": " ++ first_text s cells)

-- the other cells
abbrev pub content_text : SectionOf → RowOf → List ℕ
content_text s cells = named_cells false (drop s.keys s.columns) (drop s.keys cells)

abbrev pub line_text : SectionOf → RowOf → List ℕ × List ℕ
line_text s cells = (subject_text s cells, content_text s cells)

-- what a line is
abbrev pub texts_of : LineTexts → List ℕ × List ℕ
texts_of l = (string_bytes l.subject, string_bytes l.content)
