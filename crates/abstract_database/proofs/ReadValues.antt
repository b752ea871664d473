-- What expressions that were read give on rows of values are values.
use Rattle.std.proofs.Common.{◌≡◌, ℕ, zero, suc, ◌<◌, ◌≤◌, ◌^◌, Bool, true, false, cond, not, List, [], ◌∷◌, All, Some, Ok, Err, refl, subst, arith}
use Rattle.std.specs.Prelude.{◌≢◌, ℤ, pos, negsuc, neg_ℤ, ◌+ℤ◌, ◌-ℤ◌, ◌*ℤ◌, int_div, int_rem, unsigned_abs, FitsSigned}
use Rattle.std.specs.Int.{w64}
use Rattle.std.specs.Ordering.{int_eq}
use Rattle.std.specs.List.{AllByRecursion}
use Rattle.std.proofs.lemmas.Bool.{ltb-true}
use Rattle.std.proofs.lemmas.Int.{fits_signed_from_abs, rem_below}
use Rattle.sql_types.specs.Name.{IsUtf8Name}
use Rattle.sql_types.specs.Domain.{IsText, IsValue}
use Rattle.sql_types.specs.Value.{compare_values}
use Rattle.sql_types.specs.declared.value.Value.{Value}
use Rattle.sql_types.specs.declared.value.Value.TheVariants.{Null, Int, Text, Bool as Boolean}
use Rattle.sql_types.specs.declared.state.SqlState.TheVariants.{NumericValueOutOfRange, DivisionByZero}
use Rattle.sql_ast.specs.declared.columns.ColumnType.TheVariants as types
use Rattle.sql_ast.specs.declared.expression.ColumnName.{ColumnName}
use Rattle.sql_ast.specs.declared.expression.Operation.{Operation}
use Rattle.sql_ast.specs.declared.expression.Operation.TheVariants.{Add, Subtract, Multiply, Divide, Remainder}
use Rattle.sql_ast.specs.Term.{Term, literal, column, current_user, session_user, comparison, operation, minus, conjunction, disjunction, negation, null_test, not_null_test, member_test}
use Rattle.sql_ast.specs.Read.{IsReadTerm}
use Rattle.expressions.specs.Outcome.{Outcome, with_value}
use Rattle.expressions.specs.Operators.{is_bigint, bigint, arithmetic, calculated, negated, compared, not_value, is_null}
use Rattle.expressions.specs.Meaning.{UserNames, value_of, member_value, and_then, or_else}
use Rattle.expressions.specs.Types.{is_of}
use Rattle.abstract_database.proofs.ResultLemmas.{ok_inside}
use Rattle.abstract_database.proofs.ValueTypes.{Gives, gives_ok, with_gives, both_give, holds_boolean, and_gives, or_gives, not_boolean, member_boolean}

-- ---- values

-- each value that this may be is one
abbrev pub GivesValue : Outcome → Type 0
GivesValue o = (v : Value) → o ≡ Ok v → IsValue v

gives_this : (w : Value) → IsValue w → GivesValue (Ok w)
gives_this w h v e = subst IsValue (ok_inside w v e) h

then_gives : (o : Outcome) (go : Value → Outcome) → GivesValue o → ((x : Value) → IsValue x → GivesValue (go x)) → GivesValue (with_value o go)
then_gives (Ok x) go f g = g x (f x refl)
then_gives (Err code) go f g = λ v e. cc

boolean_value : (v : Value) → is_of (Some types.Boolean) v ≡ true → IsValue v
boolean_value Null e = tt
boolean_value (Int n) e = cc
boolean_value (Text t) e = cc
boolean_value (Boolean b) e = tt

boolean_gives : (o : Outcome) → Gives types.Boolean o → GivesValue o
boolean_gives o g v e = boolean_value v (g v e)

-- ---- numbers

bigint_fits : (z : ℤ) → is_bigint z ≡ true → FitsSigned w64 z
bigint_fits (pos n) e = record { sfits = ltb-true n (2 ^ 63) e }
bigint_fits (negsuc n) e = record { sfits = ltb-true n (2 ^ 63) e }

bigint_at : (z : ℤ) (b : Bool) → is_bigint z ≡ b → GivesValue (cond b (Ok (Int z)) (Err NumericValueOutOfRange))
bigint_at z true e = gives_this (Int z) (bigint_fits z e)
bigint_at z false e = λ v f. cc

bigint_gives : (z : ℤ) → GivesValue (bigint z)
bigint_gives z = bigint_at z (is_bigint z) refl

-- a divisor that is not zero, and at most 2 ^ 63 without its sign
divisor_below : (y : ℤ) → int_eq y (pos 0) ≡ false → FitsSigned w64 y → (0 < unsigned_abs y) × (unsigned_abs y ≤ 2 ^ 63)
divisor_below (pos zero) e fits = cc
divisor_below (pos (suc n)) e fits = (omega arith, omega (arith, fits.sfits))
divisor_below (negsuc n) e fits = (omega arith, omega (arith, fits.sfits))

remainder_fits : (x y : ℤ) → int_eq y (pos 0) ≡ false → FitsSigned w64 y → FitsSigned w64 (int_rem x y)
remainder_fits x y e fits = let at = divisor_below y e fits in fits_signed_from_abs w64 (int_rem x y) (omega (arith, rem_below x y at.0, at.1))

unless_zero : (y : ℤ) (o : Outcome) (b : Bool) → int_eq y (pos 0) ≡ b → (int_eq y (pos 0) ≡ false → GivesValue o) → GivesValue (cond b (Err DivisionByZero) o)
unless_zero y o true e go = λ v f. cc
unless_zero y o false e go = go e

arithmetic_gives : (op : Operation) (x y : ℤ) → FitsSigned w64 y → GivesValue (arithmetic op x y)
arithmetic_gives Add x y fits = bigint_gives (x +ℤ y)
arithmetic_gives Subtract x y fits = bigint_gives (x -ℤ y)
arithmetic_gives Multiply x y fits = bigint_gives (x *ℤ y)
arithmetic_gives Divide x y fits = unless_zero y (bigint (int_div x y)) (int_eq y (pos 0)) refl (λ e. bigint_gives (int_div x y))
arithmetic_gives Remainder x y fits = unless_zero y (Ok (Int (int_rem x y))) (int_eq y (pos 0)) refl (λ e. gives_this (Int (int_rem x y)) (remainder_fits x y e fits))

calculated_gives : (op : Operation) (x y : Value) → IsValue y → GivesValue (calculated op x y)
calculated_gives op (Int x) (Int y) fits = arithmetic_gives op x y fits
calculated_gives op (Int x) Null fits = gives_this Null tt
calculated_gives op (Int x) (Text y) fits = gives_this Null tt
calculated_gives op (Int x) (Boolean y) fits = gives_this Null tt
calculated_gives op Null y fits = gives_this Null tt
calculated_gives op (Text x) y fits = gives_this Null tt
calculated_gives op (Boolean x) y fits = gives_this Null tt

negated_gives : (x : Value) → GivesValue (negated x)
negated_gives (Int x) = bigint_gives (neg_ℤ x)
negated_gives Null = gives_this Null tt
negated_gives (Text x) = gives_this Null tt
negated_gives (Boolean x) = gives_this Null tt

-- ---- expressions

-- the names of both roles are texts
pub record AreTexts (users : UserNames) : Type 0 where
  pub current : IsText users.current
  pub session : IsText users.session

module _ (cell : ColumnName → Value) (cells : (c : ColumnName) → IsValue (cell c)) (users : UserNames) (texts : AreTexts users) where
  pub value_read : (e : Term ColumnName) → IsReadTerm e → GivesValue (value_of cell users e)
  value_read (literal v) read = gives_this v read
  value_read (column c) read = gives_this (cell c) (cells c)
  value_read current_user read = gives_this (Text users.current) texts.current
  value_read session_user read = gives_this (Text users.session) texts.session
  value_read (comparison op a b) read = boolean_gives (value_of cell users (comparison op a b))
      (both_give types.Boolean (value_of cell users a) (value_of cell users b) (λ x y. Ok (compared op x y)) (λ x y. gives_ok types.Boolean (compared op x y) (holds_boolean op (compare_values x y))))
  value_read (operation op a b) read =
      then_gives (value_of cell users a) (λ x. with_value (value_of cell users b) (λ y. calculated op x y)) (value_read a read.0)
      (λ x h. then_gives (value_of cell users b) (λ y. calculated op x y) (value_read b read.1) (λ y k. calculated_gives op x y k))
  value_read (minus a) read = then_gives (value_of cell users a) negated (value_read a read) (λ x h. negated_gives x)
  value_read (conjunction a b) read = boolean_gives (value_of cell users (conjunction a b))
      (with_gives types.Boolean (value_of cell users a) (λ x. and_then x (value_of cell users b)) (λ x. and_gives x (value_of cell users b)))
  value_read (disjunction a b) read = boolean_gives (value_of cell users (disjunction a b))
      (with_gives types.Boolean (value_of cell users a) (λ x. or_else x (value_of cell users b)) (λ x. or_gives x (value_of cell users b)))
  value_read (negation a) read = boolean_gives (value_of cell users (negation a))
      (with_gives types.Boolean (value_of cell users a) (λ x. Ok (not_value x)) (λ x. gives_ok types.Boolean (not_value x) (not_boolean x)))
  value_read (null_test a) read = boolean_gives (value_of cell users (null_test a))
      (with_gives types.Boolean (value_of cell users a) (λ x. Ok (Boolean (is_null x))) (λ x. gives_ok types.Boolean (Boolean (is_null x)) refl))
  value_read (not_null_test a) read = boolean_gives (value_of cell users (not_null_test a))
      (with_gives types.Boolean (value_of cell users a) (λ x. Ok (Boolean (not (is_null x)))) (λ x. gives_ok types.Boolean (Boolean (not (is_null x))) refl))
  value_read (member_test a) read = boolean_gives (value_of cell users (member_test a))
      (with_gives types.Boolean (value_of cell users a) (λ x. Ok (member_value users x)) (λ x. gives_ok types.Boolean (member_value users x) (member_boolean users x)))

-- ---- names as texts

all_by_recursion : (P : ℕ → Type 0) (xs : List ℕ) → All P xs → AllByRecursion P xs
all_by_recursion P [] a = tt
all_by_recursion P (x ∷ xs) a = (a 0 x (omega arith), all_by_recursion P xs (λ k d h. a (suc k) d (omega (arith, h))))

pub name_is_text : (name : List ℕ) → IsUtf8Name name → IsText name
name_is_text name n = record { utf8 = n.utf8; no_zero = all_by_recursion (λ b. b ≢ 0) name n.name.no_zero }
