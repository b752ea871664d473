-- Expressions without arithmetic have a value on each row.
use Rattle.std.proofs.Common.{◌≡◌, true, false, not, Ok, Err, refl}
use Rattle.std.proofs.lemmas.Bool.{and_parts}
use Rattle.sql_types.specs.declared.value.Value.{Value}
use Rattle.sql_types.specs.declared.value.Value.TheVariants.{Null, Int, Text, Bool as Boolean}
use Rattle.sql_ast.specs.Term.{Term, literal, column, current_user, session_user, comparison, operation, minus, conjunction, disjunction, negation, null_test, not_null_test, member_test}
use Rattle.expressions.specs.Outcome.{Outcome, with_value, with_both}
use Rattle.expressions.specs.Operators.{compared, and_value, or_value, not_value, is_null}
use Rattle.expressions.specs.Meaning.{UserNames, value_of, member_value, and_then, or_else}
use Rattle.expressions.specs.Infallible.{has_no_arithmetic}

-- an outcome that is a value
abbrev pub HasValue : Outcome → Type 0
HasValue o = (v : Value) × (o ≡ Ok v)

one_value : (o : Outcome) (f : Value → Value) → HasValue o → HasValue (with_value o (λ x. Ok (f x)))
one_value (Ok x) f h = (f x, refl)
one_value (Err code) f h = let e = h.1 in cc

two_values : (o p : Outcome) (f : Value → Value → Value) → HasValue o → HasValue p → HasValue (with_both o p (λ x y. Ok (f x y)))
two_values (Ok x) (Ok y) f h k = (f x y, refl)
two_values (Ok x) (Err code) f h k = let e = k.1 in cc
two_values (Err code) p f h k = let e = h.1 in cc

pub and_value_of : (o p : Outcome) → HasValue o → HasValue p → HasValue (with_value o (λ x. and_then x p))
and_value_of (Err code) p h k = let e = h.1 in cc
and_value_of (Ok x) (Err code) h k = let e = k.1 in cc
and_value_of (Ok Null) (Ok y) h k = (and_value Null y, refl)
and_value_of (Ok (Int n)) (Ok y) h k = (and_value (Int n) y, refl)
and_value_of (Ok (Text t)) (Ok y) h k = (and_value (Text t) y, refl)
and_value_of (Ok (Boolean true)) (Ok y) h k = (and_value (Boolean true) y, refl)
and_value_of (Ok (Boolean false)) (Ok y) h k = (Boolean false, refl)

or_value_of : (o p : Outcome) → HasValue o → HasValue p → HasValue (with_value o (λ x. or_else x p))
or_value_of (Err code) p h k = let e = h.1 in cc
or_value_of (Ok x) (Err code) h k = let e = k.1 in cc
or_value_of (Ok Null) (Ok y) h k = (or_value Null y, refl)
or_value_of (Ok (Int n)) (Ok y) h k = (or_value (Int n) y, refl)
or_value_of (Ok (Text t)) (Ok y) h k = (or_value (Text t) y, refl)
or_value_of (Ok (Boolean true)) (Ok y) h k = (Boolean true, refl)
or_value_of (Ok (Boolean false)) (Ok y) h k = (or_value (Boolean false) y, refl)

pub infallible_value : {C : Type 0} (cell : C → Value) (users : UserNames) (t : Term C) → has_no_arithmetic t ≡ true → HasValue (value_of cell users t)
infallible_value cell users (literal v) h = (v, refl)
infallible_value cell users (column c) h = (cell c, refl)
infallible_value cell users current_user h = (Text users.current, refl)
infallible_value cell users session_user h = (Text users.session, refl)
infallible_value cell users (comparison op a b) h =
    let parts = and_parts (has_no_arithmetic a) (has_no_arithmetic b) h in
    two_values (value_of cell users a) (value_of cell users b) (λ x y. compared op x y) (infallible_value cell users a parts.0) (infallible_value cell users b parts.1)
infallible_value cell users (operation op a b) h = cc
infallible_value cell users (minus a) h = cc
infallible_value cell users (conjunction a b) h =
    let parts = and_parts (has_no_arithmetic a) (has_no_arithmetic b) h in
    and_value_of (value_of cell users a) (value_of cell users b) (infallible_value cell users a parts.0) (infallible_value cell users b parts.1)
infallible_value cell users (disjunction a b) h =
    let parts = and_parts (has_no_arithmetic a) (has_no_arithmetic b) h in
    or_value_of (value_of cell users a) (value_of cell users b) (infallible_value cell users a parts.0) (infallible_value cell users b parts.1)
infallible_value cell users (negation a) h = one_value (value_of cell users a) (λ x. not_value x) (infallible_value cell users a h)
infallible_value cell users (null_test a) h = one_value (value_of cell users a) (λ x. Boolean (is_null x)) (infallible_value cell users a h)
infallible_value cell users (not_null_test a) h = one_value (value_of cell users a) (λ x. Boolean (not (is_null x))) (infallible_value cell users a h)
infallible_value cell users (member_test a) h = one_value (value_of cell users a) (λ x. member_value users x) (infallible_value cell users a h)
