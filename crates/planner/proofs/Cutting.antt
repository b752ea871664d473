-- The values of an INSERT are bound one after the other, and cut into rows.
use Rattle.std.proofs.Common.{◌≡◌, ◌⊎◌, ℕ, List, [], ◌∷◌, ◌++◌, map, flat_map, take, drop, length, Result, Ok, Err, refl, sym, ap, ◌∙◌, subst, inl, inr}
use Rattle.std.proofs.lemmas.List.{take-map, drop-map}
use Rattle.sql_types.specs.declared.state.Refusal.{Refusal}
use Rattle.sql_types.specs.declared.state.SqlState.{SqlState}
use Rattle.sql_types.specs.declared.state.SqlState.TheVariants.{OutOfMemory}
use Rattle.sql_ast.specs.declared.expression.ColumnName.{ColumnName}
use Rattle.sql_ast.specs.declared.scope.ColumnIndex.{ColumnIndex}
use Rattle.sql_ast.specs.Layout.{Layout}
use Rattle.sql_ast.specs.Scope.{Table as ScopeTable}
use Rattle.sql_ast.specs.Term.{Term}
use Rattle.expressions.specs.Names.{resolved}
use Rattle.expressions.specs.Parts.{Part, resolve_parts, check_expressions, Binds, IsBound}
use Rattle.expressions.specs.Stages.{◌>>=◌, each}
use Rattle.expressions.specs.Types.{TypedTerm}
use Rattle.abstract_database.specs.Checks.{value_parts}
use Rattle.abstract_database.proofs.ResultLemmas.{length_each}
use Rattle.planner.specs.Inserted.{rows_of, AreAsLong, cut_as, bound_rows}
use Rattle.planner.proofs.Changing.{name, names_of_values}
use Rattle.planner.proofs.Stages.{each_append, front, behind}

abbrev Places : Type 0
Places = List (Term ColumnIndex)

module _ (scope : List ScopeTable) (layout : Layout) (columns : List ℕ) where
  cut_there : (rows : List (List (Term ColumnName))) (n : ℕ) (xs ys : Places) → length xs ≡ n → xs ∷ cut_as rows ys ≡ take n (xs ++ ys) ∷ cut_as rows (drop n (xs ++ ys))
  cut_there rows n xs ys e = subst (λ m. xs ∷ cut_as rows ys ≡ take m (xs ++ ys) ∷ cut_as rows (drop m (xs ++ ys))) e
      (sym (ap (λ l. l ∷ cut_as rows (drop (length xs) (xs ++ ys))) (front xs ys) ∙ ap (λ l. xs ∷ cut_as rows l) (behind xs ys)))

  one_more : (rows : List (List (Term ColumnName))) (n : ℕ) (a b : Result Places SqlState) → ((xs : Places) → a ≡ Ok xs → length xs ≡ n) →
      (a >>= λ y. (b >>= λ ts. Ok (cut_as rows ts)) >>= λ ys. Ok (y ∷ ys)) ≡ ((a >>= λ xs. b >>= λ ys. Ok (xs ++ ys)) >>= λ ts. Ok (take n ts ∷ cut_as rows (drop n ts)))
  one_more rows n (Ok xs) (Ok ys) h = ap (λ l. Ok l) (cut_there rows n xs ys (h xs refl))
  one_more rows n (Ok xs) (Err code) h = refl
  one_more rows n (Err code) b h = refl

  abbrev parts : List (List (Term ColumnName)) → List Part
  parts rows = flat_map (value_parts scope layout columns) rows

  cut_names : (rows : List (List (Term ColumnName))) → AreAsLong columns rows → each (each (resolved scope)) rows ≡ (resolve_parts (parts rows) >>= λ ts. Ok (cut_as rows ts))
  cut_names [] long = refl
  cut_names (row ∷ rows) long =
      ap (λ r. each (resolved scope) row >>= λ y. r >>= λ ys. Ok (y ∷ ys)) (cut_names rows long.1)
      ∙ one_more rows (length row) (each (resolved scope) row) (resolve_parts (parts rows)) (λ xs e. length_each (resolved scope) row xs e)
      ∙ ap (λ r. (r >>= λ xs. resolve_parts (parts rows) >>= λ ys. Ok (xs ++ ys)) >>= λ ts. Ok (take (length row) ts ∷ cut_as rows (drop (length row) ts))) (sym (names_of_values scope layout columns row (sym long.0)))
      ∙ ap (λ r. r >>= λ ts. Ok (take (length row) ts ∷ cut_as rows (drop (length row) ts))) (sym (each_append name (value_parts scope layout columns row) (parts rows)))

  cut_terms : (rows : List (List (Term ColumnName))) (us : List TypedTerm) → cut_as rows (map (λ (u : TypedTerm). u.term) us) ≡ rows_of (cut_as rows us)
  cut_terms [] us = refl
  cut_terms (row ∷ rows) us =
      ap (λ l. l ∷ cut_as rows (drop (length row) (map (λ (u : TypedTerm). u.term) us))) (take-map (λ (u : TypedTerm). u.term) (length row) us)
      ∙ ap (λ l. map (λ (u : TypedTerm). u.term) (take (length row) us) ∷ cut_as rows l) (drop-map (λ (u : TypedTerm). u.term) (length row) us)
      ∙ ap (λ l. map (λ (u : TypedTerm). u.term) (take (length row) us) ∷ l) (cut_terms rows (drop (length row) us))

  pub rows_bound : (rows : List (List (Term ColumnName))) → AreAsLong columns rows → (all : List TypedTerm) → Binds (parts rows) all → bound_rows scope layout columns rows ≡ Ok (rows_of (cut_as rows all))
  rows_bound rows long all binds =
      ap (λ r. r >>= λ found. check_expressions (parts rows) >>= λ typed. Ok found) (cut_names rows long ∙ ap (λ r. r >>= λ ts. Ok (cut_as rows ts)) binds.names)
      ∙ ap (λ r. r >>= λ typed. Ok (cut_as rows (map (λ (u : TypedTerm). u.term) all))) binds.types
      ∙ ap (λ l. Ok l) (cut_terms rows all)

  refused_at : {A : Type 0} (rows : List (List (Term ColumnName))) (a : Result Places SqlState) (c : Result A SqlState) (code : SqlState) → (a >>= λ ts. c) ≡ Err code →
      ((a >>= λ ts. Ok (cut_as rows ts)) >>= λ found. c >>= λ typed. Ok found) ≡ Err code
  refused_at rows (Ok ts) (Ok z) code e = cc
  refused_at rows (Ok ts) (Err other) code e = cc
  refused_at rows (Err other) c code e = cc

  pub rows_refused : (rows : List (List (Term ColumnName))) → AreAsLong columns rows → (x : Refusal) → IsBound (parts rows) (Err x) → (x.0 ≡ OutOfMemory) ⊎ (bound_rows scope layout columns rows ≡ Err x.0)
  rows_refused rows long x (inl e) = inl e
  rows_refused rows long x (inr e) = inr (
      ap (λ r. r >>= λ found. check_expressions (parts rows) >>= λ typed. Ok found) (cut_names rows long)
      ∙ refused_at rows (resolve_parts (parts rows)) (check_expressions (parts rows)) x.0 e)
