-- Lines of sections as records, by what they are about.
use Rattle.std.specs.Prelude.{ℕ, Bool, true, false, suc, List, [], ◌∷◌, Some}
use Rattle.std.specs.declared.cmp.Ordering.{Ordering}
use Rattle.std.specs.declared.cmp.Ordering.TheVariants.{Less, Equal, Greater}
use Rattle.store.specs.Records.{Records, changed, key_cmp}
use Rattle.section_texts.specs.Sections.{RowOf, SectionOf}
use Rattle.section_texts.specs.LineTexts.{subject_text, content_text}

-- the lines with those of rows among them: of two about the same the later one
abbrev pub put_rows : SectionOf → List RowOf → Records → Records
put_rows s [] es = es
put_rows s (r ∷ rs) es = put_rows s rs (changed (subject_text s r) (Some (content_text s r)) es)

abbrev pub put_sections : List SectionOf → Records → Records
put_sections [] es = es
put_sections (s ∷ ss) es = put_sections ss (put_rows s s.rows es)

abbrev pub lines_in : List SectionOf → Records
lines_in sections = put_sections sections []

-- ---- where a line is put

-- the place behind this one, where a subject is greater; else here
abbrev pub place_by : Ordering → ℕ → ℕ
place_by Greater later = suc later
place_by Less later = 0
place_by Equal later = 0

abbrev pub put_place : List ℕ → Records → ℕ
put_place subject [] = 0
put_place subject (e ∷ es) = place_by (key_cmp subject e.0) (put_place subject es)

-- one of these lines is about it, where they are in order
abbrev pub stands_by : Ordering → Bool → Bool
stands_by Greater later = later
stands_by Less later = false
stands_by Equal later = true

abbrev pub stands : List ℕ → Records → Bool
stands subject [] = false
stands subject (e ∷ es) = stands_by (key_cmp subject e.0) (stands subject es)
