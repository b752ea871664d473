-- What the value of an expression goes by.
use Rattle.std.proofs.Common.{◌≡◌, List, [], ◌∷◌, ◌++◌, Option, Some, Ok, Err, not, refl, sym, ap, ◌∙◌, subst, inl, inr}
use Rattle.std.proofs.lemmas.Option.{same_Some}
use Rattle.sql_types.specs.declared.state.SqlState.{SqlState}
use Rattle.sql_types.specs.declared.value.Value.{Value}
use Rattle.sql_types.specs.declared.value.Value.TheVariants.{Bool as Boolean}
use Rattle.sql_ast.specs.declared.scope.ColumnIndex.{ColumnIndex}
use Rattle.sql_ast.specs.Term.{Term, literal, column, current_user, session_user, comparison, operation, minus, conjunction, disjunction, negation, null_test, not_null_test, member_test}
use Rattle.expressions.specs.Outcome.{Outcome, with_value, with_both}
use Rattle.expressions.specs.Operators.{compared, calculated, negated, not_value, is_null}
use Rattle.expressions.specs.Meaning.{UserNames, and_then, or_else, member_value, value_of}
use Rattle.abstract_database.specs.Lists.{Among}
use Rattle.abstract_database.specs.Expressions.{columns_in}
use Rattle.abstract_database.proofs.ListLemmas.{in_append_left}
use Rattle.database_laws.specs.Values.{first_operand}

-- ---- the columns that decide

pub in_append_right : {X : Type 0} (xs ys : List X) (x : X) → Among x ys → Among x (xs ++ ys)
in_append_right [] ys x h = h
in_append_right (y ∷ xs) ys x h = inr (in_append_right xs ys x h)

module _ (cell other : ColumnIndex → Value) (users : UserNames) where
  abbrev Agree : List ColumnIndex → Type 0
  Agree columns = (c : ColumnIndex) → Among c columns → cell c ≡ other c

  abbrev here : Term ColumnIndex → Outcome
  here t = value_of cell users t

  abbrev there : Term ColumnIndex → Outcome
  there t = value_of other users t

  left_of : (xs ys : List ColumnIndex) → Agree (xs ++ ys) → Agree xs
  left_of xs ys h = λ c i. h c (in_append_left xs ys c i)

  right_of : (xs ys : List ColumnIndex) → Agree (xs ++ ys) → Agree ys
  right_of xs ys h = λ c i. h c (in_append_right xs ys c i)

  in_both : (f : Outcome → Outcome → Outcome) (a b : Term ColumnIndex) → here a ≡ there a → here b ≡ there b → f (here a) (here b) ≡ f (there a) (there b)
  in_both f a b x y = ap (λ (o : Outcome). f o (here b)) x ∙ ap (λ (o : Outcome). f (there a) o) y

  pub decided : (t : Term ColumnIndex) → Agree (columns_in t) → here t ≡ there t
  decided (literal v) h = refl
  decided (column c) h = ap (λ (v : Value). let o : Outcome = Ok v in o) (h c (inl refl))
  decided current_user h = refl
  decided session_user h = refl
  decided (comparison op a b) h = in_both (λ o p. with_both o p (λ x y. Ok (compared op x y))) a b (decided a (left_of (columns_in a) (columns_in b) h)) (decided b (right_of (columns_in a) (columns_in b) h))
  decided (operation op a b) h = in_both (λ o p. with_both o p (λ x y. calculated op x y)) a b (decided a (left_of (columns_in a) (columns_in b) h)) (decided b (right_of (columns_in a) (columns_in b) h))
  decided (minus a) h = ap (λ (o : Outcome). with_value o negated) (decided a h)
  decided (conjunction a b) h = in_both (λ o p. with_value o (λ x. and_then x p)) a b (decided a (left_of (columns_in a) (columns_in b) h)) (decided b (right_of (columns_in a) (columns_in b) h))
  decided (disjunction a b) h = in_both (λ o p. with_value o (λ x. or_else x p)) a b (decided a (left_of (columns_in a) (columns_in b) h)) (decided b (right_of (columns_in a) (columns_in b) h))
  decided (negation a) h = ap (λ (o : Outcome). with_value o (λ x. Ok (not_value x))) (decided a h)
  decided (null_test a) h = ap (λ (o : Outcome). with_value o (λ x. Ok (Boolean (is_null x)))) (decided a h)
  decided (not_null_test a) h = ap (λ (o : Outcome). with_value o (λ x. Ok (Boolean (not (is_null x))))) (decided a h)
  decided (member_test a) h = ap (λ (o : Outcome). with_value o (λ x. Ok (member_value users x))) (decided a h)

-- ---- the operand that fails

module _ (cell : ColumnIndex → Value) (users : UserNames) (code : SqlState) where
  abbrev value : Term ColumnIndex → Outcome
  value t = value_of cell users t

  -- the outcome of one operand, which is this one, and fails
  failing : (b a : Term ColumnIndex) → ◌≡◌ {A = Option (Term ColumnIndex)} (Some b) (Some a) → value a ≡ Err code → value b ≡ Err code
  failing b a is e = subst (λ (x : Term ColumnIndex). value x ≡ Err code) (sym (same_Some b a is)) e

  pub fails_first : (t a : Term ColumnIndex) → first_operand t ≡ Some a → value a ≡ Err code → value t ≡ Err code
  fails_first (literal v) a is e = cc
  fails_first (column c) a is e = cc
  fails_first current_user a is e = cc
  fails_first session_user a is e = cc
  fails_first (comparison op b c) a is e = ap (λ (o : Outcome). with_both o (value c) (λ x y. Ok (compared op x y))) (failing b a is e)
  fails_first (operation op b c) a is e = ap (λ (o : Outcome). with_both o (value c) (λ x y. calculated op x y)) (failing b a is e)
  fails_first (minus b) a is e = ap (λ (o : Outcome). with_value o negated) (failing b a is e)
  fails_first (conjunction b c) a is e = ap (λ (o : Outcome). with_value o (λ x. and_then x (value c))) (failing b a is e)
  fails_first (disjunction b c) a is e = ap (λ (o : Outcome). with_value o (λ x. or_else x (value c))) (failing b a is e)
  fails_first (negation b) a is e = ap (λ (o : Outcome). with_value o (λ x. Ok (not_value x))) (failing b a is e)
  fails_first (null_test b) a is e = ap (λ (o : Outcome). with_value o (λ x. Ok (Boolean (is_null x)))) (failing b a is e)
  fails_first (not_null_test b) a is e = ap (λ (o : Outcome). with_value o (λ x. Ok (Boolean (not (is_null x))))) (failing b a is e)
  fails_first (member_test b) a is e = ap (λ (o : Outcome). with_value o (λ x. Ok (member_value users x))) (failing b a is e)
