-- Labels of the columns of a SELECT: its client is told them as the names of its columns.
use Rattle.std.specs.Prelude.{ℕ, List, [], ◌∷◌, Option, Some, None}
use Rattle.sql_ast.specs.declared.description.ResultColumn.{ResultColumn}
use Rattle.sql_ast.specs.declared.description.StatementDescription.{StatementDescription}
use Rattle.sql_ast.specs.declared.description.StatementDescription.TheVariants as description
use Rattle.postgres_talks.specs.declared.piece.LabelledText.{LabelledText}

-- a text without labels
abbrev pub bare : List ℕ → LabelledText
bare text = record { text = text; labels = [] }

-- a column is called by its label, if it has one
abbrev pub labelled_column : Option (List ℕ) → ResultColumn → ResultColumn
labelled_column None c = c
labelled_column (Some name) c = record c { name = name }

-- the label of the next column: those behind the last label have none
abbrev pub next_label : List (Option (List ℕ)) → Option (List ℕ)
next_label [] = None
next_label (l ∷ ls) = l

-- those of the columns behind it
abbrev pub other_labels : List (Option (List ℕ)) → List (Option (List ℕ))
other_labels [] = []
other_labels (l ∷ ls) = ls

abbrev pub with_labels : List (Option (List ℕ)) → List ResultColumn → List ResultColumn
with_labels ls [] = []
with_labels ls (c ∷ cs) = labelled_column (next_label ls) c ∷ with_labels (other_labels ls) cs

-- a column of this name, called by its label, if it has one
abbrev pub called : Option (List ℕ) → List ℕ → List ℕ
called None name = name
called (Some label) name = label

-- what a statement would answer whose columns have these labels
abbrev pub labelled_description : List (Option (List ℕ)) → StatementDescription → StatementDescription
labelled_description ls (description.Rows columns) = description.Rows (with_labels ls columns)
labelled_description ls d = d
