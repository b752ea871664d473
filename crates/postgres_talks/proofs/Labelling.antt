-- Labels rename columns and do nothing else.
use Rattle.std.proofs.Common.{◌≡◌, ℕ, suc, Bool, ◌&&◌, List, [], ◌∷◌, length, Option, Some, None, refl, ap}
use Rattle.sql_ast.specs.declared.description.ResultColumn.{ResultColumn}
use Rattle.sql_types.specs.declared.value.Value.{Value}
use Rattle.postgres_talks.specs.Labels.{labelled_column, next_label, other_labels, with_labels}
use Rattle.postgres_talks.specs.Rows.{is_row_of, is_value_of}

pub as_many : (ls : List (Option (List ℕ))) (cs : List ResultColumn) → length (with_labels ls cs) ≡ length cs
as_many ls [] = refl
as_many ls (c ∷ cs) = ap suc (as_many (other_labels ls) cs)

first_value : (l : Option (List ℕ)) (c : ResultColumn) (v : Value) (a b : Bool) → a ≡ b
    → (is_value_of (labelled_column l c).column_type v && a) ≡ (is_value_of c.column_type v && b)
first_value None c v a b same = ap (λ (x : Bool). is_value_of c.column_type v && x) same
first_value (Some name) c v a b same = ap (λ (x : Bool). is_value_of c.column_type v && x) same

pub same_rows : (ls : List (Option (List ℕ))) (cs : List ResultColumn) (row : List Value) → is_row_of (with_labels ls cs) row ≡ is_row_of cs row
same_rows ls [] row = refl
same_rows ls (c ∷ cs) [] = refl
same_rows ls (c ∷ cs) (v ∷ vs) = first_value (next_label ls) c v (is_row_of (with_labels (other_labels ls) cs) vs) (is_row_of cs vs) (same_rows (other_labels ls) cs vs)

pub no_labels : (cs : List ResultColumn) → with_labels [] cs ≡ cs
no_labels [] = refl
no_labels (c ∷ cs) = ap (λ (l : List ResultColumn). c ∷ l) (no_labels cs)
