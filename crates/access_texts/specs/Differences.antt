-- What is told of differences between two descriptions.
use Rattle.std.specs.Prelude.{ℕ, List, [], ◌∷◌, ◌++◌, map, flat_map, codes}
use Rattle.line_differences.specs.declared.line.DescriptionLine.{DescriptionLine}
use Rattle.line_differences.specs.declared.line.LineDifference.{LineDifference}
use Rattle.line_differences.specs.declared.line.LineDifference.TheVariants as difference
use Rattle.section_texts.specs.Sections.{RowOf, SectionOf, text, absent}

-- a line behind its mark
abbrev pub marked_line : List ℕ → DescriptionLine → List ℕ
marked_line mark l = mark ++ (l.subject.now ++ (codes "; " ++ l.content.now))

-- a line that is gone, that came, or that says something else: what it said, and what it says
abbrev pub difference_text : LineDifference → List ℕ
difference_text (difference.Gone l) = marked_line (codes "- ") l ++ codes "\n"
difference_text (difference.Came l) = marked_line (codes "+ ") l ++ codes "\n"
difference_text (difference.Changed old new) = marked_line (codes "~ ") old ++ (codes " -> " ++ (new.content.now ++ codes "\n"))

abbrev pub difference_texts : List LineDifference → List ℕ
difference_texts ds = flat_map difference_text ds

abbrev pub difference_row : LineDifference → RowOf
difference_row (difference.Gone l) = text (codes "gone") ∷ text l.subject.now ∷ text l.content.now ∷ absent ∷ []
difference_row (difference.Came l) = text (codes "came") ∷ text l.subject.now ∷ absent ∷ text l.content.now ∷ []
difference_row (difference.Changed old new) = text (codes "changed") ∷ text old.subject.now ∷ text old.content.now ∷ text new.content.now ∷ []

abbrev pub difference_section : List LineDifference → SectionOf
difference_section ds = record {
  name = codes "differences";
  columns = codes "change" ∷ codes "of" ∷ codes "was" ∷ codes "is" ∷ [];
  keys = 2;
  rows = map difference_row ds;
}
