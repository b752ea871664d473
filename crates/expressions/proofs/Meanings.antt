-- An expression whose columns are resolved means what it means by names.
use Rattle.std.proofs.Common.{◌≡◌, List, Result, Ok, Err, refl, sym, ap, ◌∙◌, not}
use Rattle.sql_types.specs.declared.state.SqlState.{SqlState}
use Rattle.sql_types.specs.declared.value.Value.{Value}
use Rattle.sql_types.specs.declared.value.Value.TheVariants.{Bool as Boolean}
use Rattle.sql_ast.specs.declared.expression.ColumnName.{ColumnName}
use Rattle.sql_ast.specs.declared.scope.ColumnIndex.{ColumnIndex}
use Rattle.sql_ast.specs.Scope.{Table, found_in}
use Rattle.sql_ast.specs.Term.{Term, literal, column, current_user, session_user, comparison, operation, minus, conjunction, disjunction, negation, null_test, not_null_test, member_test}
use Rattle.expressions.specs.Outcome.{Outcome, with_value, with_both}
use Rattle.expressions.specs.Operators.{compared, calculated, negated, not_value, is_null}
use Rattle.expressions.specs.Meaning.{UserNames, value_of, member_value, and_then, or_else}
use Rattle.expressions.specs.Names.{after, after_both, resolved, cell_found, cell_named}
use Rattle.expressions.proofs.Results.{bind_ok, ok_inside}

module _ (scope : List Table) (cell : ColumnIndex → Value) (users : UserNames) where
  abbrev Means : Term ColumnIndex → Term ColumnName → Type 0
  Means t e = value_of cell users t ≡ value_of (cell_named scope cell) users e

  one : (f : Term ColumnIndex → Term ColumnIndex) (go : Value → Outcome) → ((x : Term ColumnIndex) → value_of cell users (f x) ≡ with_value (value_of cell users x) go) →
      (a : Term ColumnName) (t : Term ColumnIndex) → ((x : Term ColumnIndex) → resolved scope a ≡ Ok x → Means x a) → after (resolved scope a) (λ x. Ok (f x)) ≡ Ok t →
      value_of cell users t ≡ with_value (value_of (cell_named scope cell) users a) go
  one f go is a t ih e =
      let at = bind_ok (resolved scope a) (λ x. Ok (f x)) t e in
      ap (value_of cell users) (sym (ok_inside (f at.0) t at.2)) ∙ is at.0 ∙ ap (λ o. with_value o go) (ih at.0 at.1)

  two : (f : Term ColumnIndex → Term ColumnIndex → Term ColumnIndex) (go : Outcome → Outcome → Outcome) → ((x y : Term ColumnIndex) → value_of cell users (f x y) ≡ go (value_of cell users x) (value_of cell users y)) →
      (a b : Term ColumnName) (t : Term ColumnIndex) → ((x : Term ColumnIndex) → resolved scope a ≡ Ok x → Means x a) → ((x : Term ColumnIndex) → resolved scope b ≡ Ok x → Means x b) →
      after_both (resolved scope a) (resolved scope b) (λ x y. Ok (f x y)) ≡ Ok t →
      value_of cell users t ≡ go (value_of (cell_named scope cell) users a) (value_of (cell_named scope cell) users b)
  two f go is a b t ih jh e =
      let at = bind_ok (resolved scope a) (λ x. after (resolved scope b) (λ y. Ok (f x y))) t e in
      let bt = bind_ok (resolved scope b) (λ y. Ok (f at.0 y)) t at.2 in
      ap (value_of cell users) (sym (ok_inside (f at.0 bt.0) t bt.2)) ∙ is at.0 bt.0
      ∙ ap (λ o. go o (value_of cell users bt.0)) (ih at.0 at.1) ∙ ap (go (value_of (cell_named scope cell) users a)) (jh bt.0 bt.1)

  found : (r : Result ColumnIndex SqlState) (t : Term ColumnIndex) → after r (λ p. Ok (column p)) ≡ Ok t → value_of cell users t ≡ Ok (cell_found cell r)
  found (Ok p) t e = ap (value_of cell users) (sym (ok_inside (column p) t e))
  found (Err code) t e = cc

  pub resolved_means : (e : Term ColumnName) (t : Term ColumnIndex) → resolved scope e ≡ Ok t → Means t e
  resolved_means (literal v) t h = ap (value_of cell users) (sym (ok_inside (literal v) t h))
  resolved_means (column c) t h = found (found_in scope c) t h
  resolved_means current_user t h = ap (value_of cell users) (sym (ok_inside current_user t h))
  resolved_means session_user t h = ap (value_of cell users) (sym (ok_inside session_user t h))
  resolved_means (comparison op a b) t h = two (comparison op) (λ o p. with_both o p (λ x y. Ok (compared op x y))) (λ x y. refl) a b t (resolved_means a) (resolved_means b) h
  resolved_means (operation op a b) t h = two (operation op) (λ o p. with_both o p (λ x y. calculated op x y)) (λ x y. refl) a b t (resolved_means a) (resolved_means b) h
  resolved_means (minus a) t h = one minus negated (λ x. refl) a t (resolved_means a) h
  resolved_means (conjunction a b) t h = two conjunction (λ o p. with_value o (λ x. and_then x p)) (λ x y. refl) a b t (resolved_means a) (resolved_means b) h
  resolved_means (disjunction a b) t h = two disjunction (λ o p. with_value o (λ x. or_else x p)) (λ x y. refl) a b t (resolved_means a) (resolved_means b) h
  resolved_means (negation a) t h = one negation (λ x. Ok (not_value x)) (λ x. refl) a t (resolved_means a) h
  resolved_means (null_test a) t h = one null_test (λ x. Ok (Boolean (is_null x))) (λ x. refl) a t (resolved_means a) h
  resolved_means (not_null_test a) t h = one not_null_test (λ x. Ok (Boolean (not (is_null x)))) (λ x. refl) a t (resolved_means a) h
  resolved_means (member_test a) t h = one member_test (λ x. Ok (member_value users x)) (λ x. refl) a t (resolved_means a) h
