-- The codes with which statements are refused: a walk over what each is checked for, and what it does.
use Rattle.std.proofs.Common.{◌≡◌, ℤ, pos, ◌+ℤ◌, ◌-ℤ◌, ◌*ℤ◌, neg_ℤ, int_div, int_rem, Bool, true, false, cond, List, [], ◌∷◌, Option, Some, None, Result, Ok, Err, refl, sym, ap, ◌∙◌}
use Rattle.std.specs.Ordering.{int_eq}
use Rattle.sql_types.specs.Row.{Row}
use Rattle.sql_types.specs.declared.state.SqlState.{SqlState}
use Rattle.sql_types.specs.declared.state.SqlState.TheVariants.{DatatypeMismatch, NumericValueOutOfRange, DivisionByZero}
use Rattle.sql_types.specs.declared.value.Value.{Value}
use Rattle.sql_types.specs.declared.value.Value.TheVariants.{Null, Int, Text, Bool as Boolean}
use Rattle.sql_ast.specs.Scope.{Table as ScopeTable, only_index, found_in, found_from}
use Rattle.sql_ast.specs.Term.{Term, literal, column, current_user, session_user, comparison, operation, minus, conjunction, disjunction, negation, null_test, not_null_test, member_test}
use Rattle.sql_ast.specs.declared.columns.ColumnType.{ColumnType}
use Rattle.sql_ast.specs.declared.expression.ColumnName.{ColumnName}
use Rattle.sql_ast.specs.declared.expression.Operation.{Operation}
use Rattle.sql_ast.specs.declared.expression.Operation.TheVariants.{Add, Subtract, Multiply, Divide, Remainder}
use Rattle.sql_ast.specs.declared.scope.ColumnIndex.{ColumnIndex}
use Rattle.expressions.specs.Outcome.{Outcome, with_value, with_both}
use Rattle.expressions.specs.Operators.{is_bigint, bigint, arithmetic, calculated, negated}
use Rattle.expressions.specs.Meaning.{UserNames, and_then, or_else, value_of}
use Rattle.expressions.specs.Names.{after_both, resolved}
use Rattle.expressions.specs.Types.{ValueType, typed_if, type_of, names_then_types}
use Rattle.expressions.specs.Parts.{Part, check_type, check_expressions, resolve_parts}
use Rattle.expressions.specs.Stages.{◌>>=◌, require, each}
use Rattle.abstract_database.specs.Lists.{found_or, optional}
use Rattle.abstract_database.specs.Expressions.{when_true, passing, bound_value}
use Rattle.database_laws.specs.Codes.{is_of_statements}

-- a step is refused with a code of statements, if at all
pub data Owns {A : Type 0} : Result A SqlState → Type 0 where
  gives : {a : A} → Owns (Ok a)
  refuses : {code : SqlState} → is_of_statements code ≡ true → Owns (Err code)

pub owned : {A : Type 0} (r : Result A SqlState) (code : SqlState) → Owns r → r ≡ Err code → is_of_statements code ≡ true
owned (Ok a) code h e = cc
owned {A = A} (Err c) code (refuses h) e = sym (ap is_of_statements (one_code e)) ∙ h where
  one_code : ◌≡◌ {A = Result A SqlState} (Err c) (Err code) → c ≡ code
  one_code e = cc

-- ---- stages

pub owns_bind : {A B : Type 0} (r : Result A SqlState) (go : A → Result B SqlState) → Owns r → ((a : A) → Owns (go a)) → Owns (r >>= go)
owns_bind (Ok a) go h k = k a
owns_bind (Err code) go (refuses h) k = refuses h

pub owns_require : (b : Bool) (code : SqlState) → is_of_statements code ≡ true → Owns (require b code)
owns_require true code h = gives
owns_require false code h = refuses h

pub owns_each : {A B : Type 0} (f : A → Result B SqlState) → ((x : A) → Owns (f x)) → (xs : List A) → Owns (each f xs)
owns_each f h [] = gives
owns_each f h (x ∷ xs) = owns_bind (f x) _ (h x) (λ y. owns_bind (each f xs) _ (owns_each f h xs) (λ ys. gives))

pub owns_found : {A : Type 0} (code : SqlState) (o : Option A) → is_of_statements code ≡ true → Owns (found_or code o)
owns_found code None h = refuses h
owns_found code (Some x) h = gives

pub owns_optional : {A B : Type 0} (f : A → Result B SqlState) → ((x : A) → Owns (f x)) → (o : Option A) → Owns (optional f o)
owns_optional f h None = gives
owns_optional f h (Some x) = owns_bind (f x) _ (h x) (λ y. gives)

pub owns_when : {A : Type 0} (v : Value) (this other : Result A SqlState) → Owns this → Owns other → Owns (when_true v this other)
owns_when (Boolean true) this other h k = h
owns_when (Boolean false) this other h k = k
owns_when Null this other h k = k
owns_when (Int n) this other h k = k
owns_when (Text t) this other h k = k

pub owns_passing : {A : Type 0} (f : A → Outcome) → ((x : A) → Owns (f x)) → (xs : List A) → Owns (passing f xs)
owns_passing f h [] = gives
owns_passing f h (x ∷ xs) = owns_bind (f x) _ (h x) (λ v. owns_bind (passing f xs) _ (owns_passing f h xs) (λ ys. gives))

-- ---- names and types

owns_index : (found : List ColumnIndex) → Owns (only_index found)
owns_index [] = refuses refl
owns_index (p ∷ []) = gives
owns_index (p ∷ q ∷ rest) = refuses refl

owns_both : {S T : Type 0} (a b : Result S SqlState) (go : S → S → Result T SqlState) → Owns a → Owns b → ((x y : S) → Owns (go x y)) → Owns (after_both a b go)
owns_both a b go h k l = owns_bind a _ h (λ x. owns_bind b _ k (λ y. l x y))

pub owns_resolved : (tables : List ScopeTable) (e : Term ColumnName) → Owns (resolved tables e)
owns_resolved tables (literal v) = gives
owns_resolved tables (column name) = owns_bind (found_in tables name) _ (owns_index (found_from 0 tables name)) (λ i. gives)
owns_resolved tables current_user = gives
owns_resolved tables session_user = gives
owns_resolved tables (comparison op a b) = owns_both (resolved tables a) (resolved tables b) _ (owns_resolved tables a) (owns_resolved tables b) (λ x y. gives)
owns_resolved tables (operation op a b) = owns_both (resolved tables a) (resolved tables b) _ (owns_resolved tables a) (owns_resolved tables b) (λ x y. gives)
owns_resolved tables (minus a) = owns_bind (resolved tables a) _ (owns_resolved tables a) (λ x. gives)
owns_resolved tables (conjunction a b) = owns_both (resolved tables a) (resolved tables b) _ (owns_resolved tables a) (owns_resolved tables b) (λ x y. gives)
owns_resolved tables (disjunction a b) = owns_both (resolved tables a) (resolved tables b) _ (owns_resolved tables a) (owns_resolved tables b) (λ x y. gives)
owns_resolved tables (negation a) = owns_bind (resolved tables a) _ (owns_resolved tables a) (λ x. gives)
owns_resolved tables (null_test a) = owns_bind (resolved tables a) _ (owns_resolved tables a) (λ x. gives)
owns_resolved tables (not_null_test a) = owns_bind (resolved tables a) _ (owns_resolved tables a) (λ x. gives)
owns_resolved tables (member_test a) = owns_bind (resolved tables a) _ (owns_resolved tables a) (λ x. gives)

owns_typed_if : (b : Bool) (t : ColumnType) → Owns (typed_if b t)
owns_typed_if true t = gives
owns_typed_if false t = refuses refl

module _ {C : Type 0} (of_column : C → ValueType) where
  owns_type : (e : Term C) → Owns (type_of of_column e)
  owns_type (literal v) = gives
  owns_type (column c) = gives
  owns_type current_user = gives
  owns_type session_user = gives
  owns_type (comparison op a b) = owns_both (type_of of_column a) (type_of of_column b) _ (owns_type a) (owns_type b) (λ t u. owns_typed_if _ _)
  owns_type (operation op a b) = owns_both (type_of of_column a) (type_of of_column b) _ (owns_type a) (owns_type b) (λ t u. owns_typed_if _ _)
  owns_type (minus a) = owns_bind (type_of of_column a) _ (owns_type a) (λ t. owns_typed_if _ _)
  owns_type (conjunction a b) = owns_both (type_of of_column a) (type_of of_column b) _ (owns_type a) (owns_type b) (λ t u. owns_typed_if _ _)
  owns_type (disjunction a b) = owns_both (type_of of_column a) (type_of of_column b) _ (owns_type a) (owns_type b) (λ t u. owns_typed_if _ _)
  owns_type (negation a) = owns_bind (type_of of_column a) _ (owns_type a) (λ t. owns_typed_if _ _)
  owns_type (null_test a) = owns_bind (type_of of_column a) _ (owns_type a) (λ t. gives)
  owns_type (not_null_test a) = owns_bind (type_of of_column a) _ (owns_type a) (λ t. gives)
  owns_type (member_test a) = owns_bind (type_of of_column a) _ (owns_type a) (λ t. owns_typed_if _ _)

owns_names_then_types : (tables : List ScopeTable) (e : Term ColumnName) → Owns (names_then_types tables e)
owns_names_then_types tables e = owns_bind (resolved tables e) _ (owns_resolved tables e) (λ t. owns_bind (type_of _ t) _ (owns_type _ t) (λ u. gives))

pub owns_checked_expressions : (parts : List Part) → Owns (check_expressions parts)
owns_checked_expressions parts = owns_each check_type (λ p. owns_bind (names_then_types p.scope p.term) _ (owns_names_then_types p.scope p.term) (λ t. owns_require _ DatatypeMismatch refl)) parts

pub owns_resolved_parts : (parts : List Part) → Owns (resolve_parts parts)
owns_resolved_parts parts = owns_each (λ (p : Part). resolved p.scope p.term) (λ p. owns_resolved p.scope p.term) parts

-- ---- values

pub owns_value : (o : Outcome) (go : Value → Outcome) → Owns o → ((v : Value) → Owns (go v)) → Owns (with_value o go)
owns_value (Ok v) go h k = k v
owns_value (Err code) go (refuses h) k = refuses h

owns_values : (a b : Outcome) (go : Value → Value → Outcome) → Owns a → Owns b → ((x y : Value) → Owns (go x y)) → Owns (with_both a b go)
owns_values a b go h k l = owns_value a _ h (λ x. owns_value b _ k (λ y. l x y))

pub owns_bigint : (z : ℤ) → Owns (bigint z)
owns_bigint z = by (is_bigint z) where
  by : (b : Bool) → Owns (cond b (Ok (Int z)) (Err NumericValueOutOfRange))
  by true = gives
  by false = refuses refl

owns_unless_zero : (zero : Bool) (o : Outcome) → Owns o → Owns (cond zero (Err DivisionByZero) o)
owns_unless_zero true o h = refuses refl
owns_unless_zero false o h = h

owns_arithmetic : (op : Operation) (x y : ℤ) → Owns (arithmetic op x y)
owns_arithmetic Add x y = owns_bigint (x +ℤ y)
owns_arithmetic Subtract x y = owns_bigint (x -ℤ y)
owns_arithmetic Multiply x y = owns_bigint (x *ℤ y)
owns_arithmetic Divide x y = owns_unless_zero (int_eq y (pos 0)) (bigint (int_div x y)) (owns_bigint (int_div x y))
owns_arithmetic Remainder x y = owns_unless_zero (int_eq y (pos 0)) (Ok (Int (int_rem x y))) gives

owns_calculated : (op : Operation) (x y : Value) → Owns (calculated op x y)
owns_calculated op (Int x) (Int y) = owns_arithmetic op x y
owns_calculated op (Int x) Null = gives
owns_calculated op (Int x) (Text t) = gives
owns_calculated op (Int x) (Boolean b) = gives
owns_calculated op Null y = gives
owns_calculated op (Text t) y = gives
owns_calculated op (Boolean b) y = gives

owns_negated : (x : Value) → Owns (negated x)
owns_negated (Int x) = owns_bigint (neg_ℤ x)
owns_negated Null = gives
owns_negated (Text t) = gives
owns_negated (Boolean b) = gives

pub owns_and : (x : Value) (right : Outcome) → Owns right → Owns (and_then x right)
owns_and (Boolean false) right h = gives
owns_and (Boolean true) right h = owns_value right _ h (λ y. gives)
owns_and Null right h = owns_value right _ h (λ y. gives)
owns_and (Int n) right h = owns_value right _ h (λ y. gives)
owns_and (Text t) right h = owns_value right _ h (λ y. gives)

owns_or : (x : Value) (right : Outcome) → Owns right → Owns (or_else x right)
owns_or (Boolean true) right h = gives
owns_or (Boolean false) right h = owns_value right _ h (λ y. gives)
owns_or Null right h = owns_value right _ h (λ y. gives)
owns_or (Int n) right h = owns_value right _ h (λ y. gives)
owns_or (Text t) right h = owns_value right _ h (λ y. gives)

module _ {C : Type 0} (cell : C → Value) (users : UserNames) where
  pub owns_value_of : (e : Term C) → Owns (value_of cell users e)
  owns_value_of (literal v) = gives
  owns_value_of (column c) = gives
  owns_value_of current_user = gives
  owns_value_of session_user = gives
  owns_value_of (comparison op a b) = owns_values (value_of cell users a) (value_of cell users b) _ (owns_value_of a) (owns_value_of b) (λ x y. gives)
  owns_value_of (operation op a b) = owns_values (value_of cell users a) (value_of cell users b) _ (owns_value_of a) (owns_value_of b) (λ x y. owns_calculated op x y)
  owns_value_of (minus a) = owns_value (value_of cell users a) _ (owns_value_of a) owns_negated
  owns_value_of (conjunction a b) = owns_value (value_of cell users a) _ (owns_value_of a) (λ x. owns_and x (value_of cell users b) (owns_value_of b))
  owns_value_of (disjunction a b) = owns_value (value_of cell users a) _ (owns_value_of a) (λ x. owns_or x (value_of cell users b) (owns_value_of b))
  owns_value_of (negation a) = owns_value (value_of cell users a) _ (owns_value_of a) (λ x. gives)
  owns_value_of (null_test a) = owns_value (value_of cell users a) _ (owns_value_of a) (λ x. gives)
  owns_value_of (not_null_test a) = owns_value (value_of cell users a) _ (owns_value_of a) (λ x. gives)
  owns_value_of (member_test a) = owns_value (value_of cell users a) _ (owns_value_of a) (λ x. gives)

pub owns_bound : (users : UserNames) (rows : List Row) (e : Term ColumnIndex) → Owns (bound_value users rows e)
owns_bound users rows e = owns_value_of _ users e
