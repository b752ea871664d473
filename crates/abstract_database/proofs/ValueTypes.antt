-- The values that a statement puts into a table are of their columns' types.
use Rattle.std.proofs.Common.{◌≡◌, ℕ, arith, ◌&&◌, ◌||◌, zero, suc, Bool, true, false, not, cond, List, [], ◌∷◌, map, length, slice_get, nat_eq, ◌+◌, ◌≤◌, bytes_eq, Result, Ok, Err, Option, Some, None, ℤ, pos, refl, sym, ap, ◌∙◌, subst, inl, inr, Ordering, int_eq, ◌+ℤ◌, ◌-ℤ◌, ◌*ℤ◌, neg_ℤ, int_div, int_rem}
use Rattle.std.specs.List.{list_any}
use Rattle.sql_types.specs.declared.state.SqlState.{SqlState}
use Rattle.sql_types.specs.declared.state.SqlState.TheVariants.{DatatypeMismatch, DivisionByZero, NumericValueOutOfRange}
use Rattle.sql_types.specs.declared.value.Value.{Value}
use Rattle.sql_types.specs.declared.value.Value.TheVariants.{Null, Int, Text, Bool as Boolean}
use Rattle.sql_types.specs.Value.{compare_values}
use Rattle.sql_ast.specs.declared.columns.Column.{Column}
use Rattle.sql_ast.specs.declared.columns.ColumnType.{ColumnType}
use Rattle.sql_ast.specs.declared.columns.ColumnType.TheVariants as types
use Rattle.sql_ast.specs.declared.expression.ColumnName.{ColumnName}
use Rattle.sql_ast.specs.declared.expression.Comparison.{Comparison}
use Rattle.sql_ast.specs.declared.expression.Operation.{Operation}
use Rattle.sql_ast.specs.declared.expression.Operation.TheVariants.{Add, Subtract, Multiply, Divide, Remainder}
use Rattle.sql_ast.specs.declared.scope.ColumnIndex.{ColumnIndex}
use Rattle.sql_ast.specs.declared.statement.ColumnDefinition.{ColumnDefinition}
use Rattle.sql_ast.specs.Layout.{Layout, all_differ, same_name}
use Rattle.sql_ast.specs.Scope.{Table as ScopeTable, found_in, type_at, type_of as type_of_column}
use Rattle.sql_ast.specs.Term.{Term, literal, column, current_user, session_user, comparison, operation, minus, conjunction, disjunction, negation, null_test, not_null_test, member_test}
use Rattle.expressions.specs.Outcome.{Outcome, with_value, with_both}
use Rattle.expressions.specs.Operators.{holds_in, compared, is_bigint, bigint, arithmetic, calculated, negated, and_value, or_value, not_value, is_null}
use Rattle.expressions.specs.Meaning.{UserNames, value_of, member_value, and_then, or_else}
use Rattle.expressions.specs.Names.{after, after_both, resolved, cell_found, cell_named}
use Rattle.expressions.specs.Types.{ValueType, fits, agree, type_of_value, typed_if, type_of, TypedTerm, typed, names_then_types, is_of}
use Rattle.abstract_database.specs.Lists.{TheName, Among, has_double, has_name}
use Rattle.expressions.specs.Parts.{Part, is_expected, check_type}
use Rattle.expressions.specs.Stages.{◌>>=◌, require, each}
use Rattle.abstract_database.specs.Database.{TableOf}
use Rattle.sql_types.specs.Row.{Row, value_at}
use Rattle.abstract_database.specs.Expressions.{column_type, own_scope, cell_in, bound_value, value_on}
use Rattle.abstract_database.specs.Changes.{value_beside, replaced_from, replaced, arranged, inserted_row, assigned}
use Rattle.abstract_database.specs.Definitions.{column_of}
use Rattle.abstract_database.specs.Checks.{value_parts}
use Rattle.std.proofs.lemmas.Bool.{eqb-true}
use Rattle.std.proofs.lemmas.List.{length-map}
use Rattle.expressions.proofs.Meanings.{resolved_means}
use Rattle.abstract_database.proofs.ResultLemmas.{ok_inside, bind_ok, require_ok}
use Rattle.abstract_database.proofs.RowOrder.{RowFits}

-- ---- what an operator gives

-- each value that this may be is null or of the type
abbrev pub Gives : ColumnType → Outcome → Type 0
Gives k o = (v : Value) → o ≡ Ok v → is_of (Some k) v ≡ true

pub gives_ok : (k : ColumnType) (w : Value) → is_of (Some k) w ≡ true → Gives k (Ok w)
gives_ok k w h v e = subst (λ x. is_of (Some k) x ≡ true) (ok_inside w v e) h

pub with_gives : (k : ColumnType) (o : Outcome) (go : Value → Outcome) → ((x : Value) → Gives k (go x)) → Gives k (with_value o go)
with_gives k (Ok x) go h = h x
with_gives k (Err code) go h = λ v e. cc

pub both_give : (k : ColumnType) (o p : Outcome) (go : Value → Value → Outcome) → ((x y : Value) → Gives k (go x y)) → Gives k (with_both o p go)
both_give k o p go h = with_gives k o (λ x. with_value p (λ y. go x y)) (λ x. with_gives k p (λ y. go x y) (λ y. h x y))

pub holds_boolean : (op : Comparison) (o : Option Ordering) → is_of (Some types.Boolean) (holds_in op o) ≡ true
holds_boolean op None = refl
holds_boolean op (Some o) = refl

bigint_at : (b : Bool) (z : ℤ) → Gives types.BigInt (cond b (Ok (Int z)) (Err NumericValueOutOfRange))
bigint_at true z = gives_ok types.BigInt (Int z) refl
bigint_at false z = λ v e. cc

bigint_gives : (z : ℤ) → Gives types.BigInt (bigint z)
bigint_gives z = bigint_at (is_bigint z) z

unless_zero : (b : Bool) (o : Outcome) → Gives types.BigInt o → Gives types.BigInt (cond b (Err DivisionByZero) o)
unless_zero true o h = λ v e. cc
unless_zero false o h = h

arithmetic_gives : (op : Operation) (x y : ℤ) → Gives types.BigInt (arithmetic op x y)
arithmetic_gives Add x y = bigint_gives (x +ℤ y)
arithmetic_gives Subtract x y = bigint_gives (x -ℤ y)
arithmetic_gives Multiply x y = bigint_gives (x *ℤ y)
arithmetic_gives Divide x y = unless_zero (int_eq y (pos 0)) (bigint (int_div x y)) (bigint_gives (int_div x y))
arithmetic_gives Remainder x y = unless_zero (int_eq y (pos 0)) (Ok (Int (int_rem x y))) (gives_ok types.BigInt (Int (int_rem x y)) refl)

calculated_gives : (op : Operation) (x y : Value) → Gives types.BigInt (calculated op x y)
calculated_gives op (Int x) (Int y) = arithmetic_gives op x y
calculated_gives op (Int x) Null = gives_ok types.BigInt Null refl
calculated_gives op (Int x) (Text y) = gives_ok types.BigInt Null refl
calculated_gives op (Int x) (Boolean y) = gives_ok types.BigInt Null refl
calculated_gives op Null y = gives_ok types.BigInt Null refl
calculated_gives op (Text x) y = gives_ok types.BigInt Null refl
calculated_gives op (Boolean x) y = gives_ok types.BigInt Null refl

negated_gives : (x : Value) → Gives types.BigInt (negated x)
negated_gives (Int x) = bigint_gives (neg_ℤ x)
negated_gives Null = gives_ok types.BigInt Null refl
negated_gives (Text x) = gives_ok types.BigInt Null refl
negated_gives (Boolean x) = gives_ok types.BigInt Null refl

and_boolean : (x y : Value) → is_of (Some types.Boolean) (and_value x y) ≡ true
and_boolean (Boolean false) y = refl
and_boolean (Boolean true) (Boolean false) = refl
and_boolean (Boolean true) (Boolean true) = refl
and_boolean (Boolean true) Null = refl
and_boolean (Boolean true) (Int y) = refl
and_boolean (Boolean true) (Text y) = refl
and_boolean Null (Boolean false) = refl
and_boolean Null (Boolean true) = refl
and_boolean Null Null = refl
and_boolean Null (Int y) = refl
and_boolean Null (Text y) = refl
and_boolean (Int x) (Boolean false) = refl
and_boolean (Int x) (Boolean true) = refl
and_boolean (Int x) Null = refl
and_boolean (Int x) (Int y) = refl
and_boolean (Int x) (Text y) = refl
and_boolean (Text x) (Boolean false) = refl
and_boolean (Text x) (Boolean true) = refl
and_boolean (Text x) Null = refl
and_boolean (Text x) (Int y) = refl
and_boolean (Text x) (Text y) = refl

or_boolean : (x y : Value) → is_of (Some types.Boolean) (or_value x y) ≡ true
or_boolean (Boolean true) y = refl
or_boolean (Boolean false) (Boolean false) = refl
or_boolean (Boolean false) (Boolean true) = refl
or_boolean (Boolean false) Null = refl
or_boolean (Boolean false) (Int y) = refl
or_boolean (Boolean false) (Text y) = refl
or_boolean Null (Boolean false) = refl
or_boolean Null (Boolean true) = refl
or_boolean Null Null = refl
or_boolean Null (Int y) = refl
or_boolean Null (Text y) = refl
or_boolean (Int x) (Boolean false) = refl
or_boolean (Int x) (Boolean true) = refl
or_boolean (Int x) Null = refl
or_boolean (Int x) (Int y) = refl
or_boolean (Int x) (Text y) = refl
or_boolean (Text x) (Boolean false) = refl
or_boolean (Text x) (Boolean true) = refl
or_boolean (Text x) Null = refl
or_boolean (Text x) (Int y) = refl
or_boolean (Text x) (Text y) = refl

and_after : (x : Value) (o : Outcome) → Gives types.Boolean (with_value o (λ y. Ok (and_value x y)))
and_after x o = with_gives types.Boolean o (λ y. Ok (and_value x y)) (λ y. gives_ok types.Boolean (and_value x y) (and_boolean x y))

or_after : (x : Value) (o : Outcome) → Gives types.Boolean (with_value o (λ y. Ok (or_value x y)))
or_after x o = with_gives types.Boolean o (λ y. Ok (or_value x y)) (λ y. gives_ok types.Boolean (or_value x y) (or_boolean x y))

pub and_gives : (x : Value) (o : Outcome) → Gives types.Boolean (and_then x o)
and_gives (Boolean false) o = gives_ok types.Boolean (Boolean false) refl
and_gives (Boolean true) o = and_after (Boolean true) o
and_gives Null o = and_after Null o
and_gives (Int x) o = and_after (Int x) o
and_gives (Text x) o = and_after (Text x) o

pub or_gives : (x : Value) (o : Outcome) → Gives types.Boolean (or_else x o)
or_gives (Boolean true) o = gives_ok types.Boolean (Boolean true) refl
or_gives (Boolean false) o = or_after (Boolean false) o
or_gives Null o = or_after Null o
or_gives (Int x) o = or_after (Int x) o
or_gives (Text x) o = or_after (Text x) o

pub member_boolean : (users : UserNames) (x : Value) → is_of (Some types.Boolean) (member_value users x) ≡ true
member_boolean users (Text t) = refl
member_boolean users Null = refl
member_boolean users (Int x) = refl
member_boolean users (Boolean b) = refl

pub not_boolean : (x : Value) → is_of (Some types.Boolean) (not_value x) ≡ true
not_boolean (Boolean b) = refl
not_boolean Null = refl
not_boolean (Int x) = refl
not_boolean (Text x) = refl

-- ---- what type an operator has

abbrev OfType : ColumnType → Result ValueType SqlState → Type 0
OfType k r = (u : ValueType) → r ≡ Ok u → u ≡ Some k

if_of : (b : Bool) (k : ColumnType) → OfType k (typed_if b k)
if_of true k u e = sym (ok_inside (Some k) u e)
if_of false k u e = cc

two_of : (k : ColumnType) (g : ValueType → ValueType → Bool) (r p : Result ValueType SqlState) → OfType k (after_both r p (λ t u. typed_if (g t u) k))
two_of k g (Ok t) (Ok u) = if_of (g t u) k
two_of k g (Ok t) (Err code) = λ u e. cc
two_of k g (Err code) p = λ u e. cc

one_of : (k : ColumnType) (g : ValueType → Result ValueType SqlState) → ((t : ValueType) → OfType k (g t)) → (r : Result ValueType SqlState) → OfType k (after r g)
one_of k g h (Ok t) = h t
one_of k g h (Err code) = λ u e. cc

-- the type of an expression that was checked
abbrev Typed : ColumnType → Result TypedTerm SqlState → Type 0
Typed k r = (t : TypedTerm) → r ≡ Ok t → t.value_type ≡ Some k

with_term : (k : ColumnType) (x : Term ColumnIndex) (r : Result ValueType SqlState) → OfType k r → Typed k (after r (λ u. Ok (record { term = x; value_type = u })))
with_term k x (Ok u) h t e = let same : record { term = x; value_type = u } ≡ t = ok_inside (record { term = x; value_type = u }) t e in sym (ap (λ y. y.value_type) same) ∙ h u refl
with_term k x (Err code) h t e = cc

two_typed : (k : ColumnType) (tables : List ScopeTable) (f : Term ColumnIndex → Term ColumnIndex → Term ColumnIndex) → ((x y : Term ColumnIndex) → Typed k (typed tables (f x y))) → (a b : Result (Term ColumnIndex) SqlState) →
    Typed k (after (after_both a b (λ x y. Ok (f x y))) (λ t. typed tables t))
two_typed k tables f h (Ok x) (Ok y) = h x y
two_typed k tables f h (Ok x) (Err code) = λ t e. cc
two_typed k tables f h (Err code) b = λ t e. cc

one_typed : (k : ColumnType) (tables : List ScopeTable) (f : Term ColumnIndex → Term ColumnIndex) → ((x : Term ColumnIndex) → Typed k (typed tables (f x))) → (a : Result (Term ColumnIndex) SqlState) →
    Typed k (after (after a (λ x. Ok (f x))) (λ t. typed tables t))
one_typed k tables f h (Ok x) = h x
one_typed k tables f h (Err code) = λ t e. cc

as_typed : (k : ColumnType) (t : TypedTerm) (v : Value) → t.value_type ≡ Some k → is_of (Some k) v ≡ true → is_of t.value_type v ≡ true
as_typed k t v e h = subst (λ u. is_of u v ≡ true) (sym e) h

literal_typed : (w : Value) → is_of (type_of_value w) w ≡ true
literal_typed Null = refl
literal_typed (Int n) = refl
literal_typed (Text t) = refl
literal_typed (Boolean b) = refl

column_typed : (tables : List ScopeTable) (cell : ColumnIndex → Value) → ((p : ColumnIndex) → is_of (type_at tables p) (cell p) ≡ true) → (r : Result ColumnIndex SqlState) (t : TypedTerm) (v : Value) →
    after (after r (λ p. Ok (column p))) (λ x. typed tables x) ≡ Ok t → ◌≡◌ {A = Outcome} (Ok (cell_found cell r)) (Ok v) → is_of t.value_type v ≡ true
column_typed tables cell h (Ok p) t v e f =
    let same : record { term = column p; value_type = type_at tables p } ≡ t = ok_inside (record { term = column p; value_type = type_at tables p }) t e in
    subst (λ w. is_of t.value_type w ≡ true) (ok_inside (cell p) v f) (subst (λ (x : TypedTerm). is_of x.value_type (cell p) ≡ true) same (h p))
column_typed tables cell h (Err code) t v e f = cc

-- the value of an expression that was checked is null or of its type, on a row whose values are of theirs
pub checked_value : (tables : List ScopeTable) (cell : ColumnIndex → Value) (users : UserNames) → ((p : ColumnIndex) → is_of (type_at tables p) (cell p) ≡ true) → (e : Term ColumnName) (t : TypedTerm) (v : Value) →
    names_then_types tables e ≡ Ok t → value_of (cell_named tables cell) users e ≡ Ok v → is_of t.value_type v ≡ true
checked_value tables cell users h (literal w) t v e f =
    let same : record { term = literal w; value_type = type_of_value w } ≡ t = ok_inside (record { term = literal w; value_type = type_of_value w }) t e in
    subst (λ x. is_of t.value_type x ≡ true) (ok_inside w v f) (subst (λ (x : TypedTerm). is_of x.value_type w ≡ true) same (literal_typed w))
checked_value tables cell users h (column c) t v e f = column_typed tables cell h (found_in tables c) t v e f
checked_value tables cell users h current_user t v e f = as_typed types.Text t v (with_term types.Text current_user (Ok (Some types.Text)) (λ u k. sym (ok_inside (Some types.Text) u k)) t e) (gives_ok types.Text (Text users.current) refl v f)
checked_value tables cell users h session_user t v e f = as_typed types.Text t v (with_term types.Text session_user (Ok (Some types.Text)) (λ u k. sym (ok_inside (Some types.Text) u k)) t e) (gives_ok types.Text (Text users.session) refl v f)
checked_value tables cell users h (comparison op a b) t v e f =
    as_typed types.Boolean t v
    (two_typed types.Boolean tables (comparison op) (λ x y. with_term types.Boolean (comparison op x y) (type_of (type_at tables) (comparison op x y)) (two_of types.Boolean agree (type_of (type_at tables) x) (type_of (type_at tables) y))) (resolved tables a) (resolved tables b) t e)
    (both_give types.Boolean (value_of (cell_named tables cell) users a) (value_of (cell_named tables cell) users b) (λ x y. Ok (compared op x y)) (λ x y. gives_ok types.Boolean (compared op x y) (holds_boolean op (compare_values x y))) v f)
checked_value tables cell users h (operation op a b) t v e f =
    as_typed types.BigInt t v
    (two_typed types.BigInt tables (operation op) (λ x y. with_term types.BigInt (operation op x y) (type_of (type_at tables) (operation op x y)) (two_of types.BigInt (λ k l. fits types.BigInt k && fits types.BigInt l) (type_of (type_at tables) x) (type_of (type_at tables) y))) (resolved tables a) (resolved tables b) t e)
    (both_give types.BigInt (value_of (cell_named tables cell) users a) (value_of (cell_named tables cell) users b) (λ x y. calculated op x y) (λ x y. calculated_gives op x y) v f)
checked_value tables cell users h (minus a) t v e f =
    as_typed types.BigInt t v
    (one_typed types.BigInt tables minus (λ x. with_term types.BigInt (minus x) (type_of (type_at tables) (minus x)) (one_of types.BigInt (λ k. typed_if (fits types.BigInt k) types.BigInt) (λ k. if_of (fits types.BigInt k) types.BigInt) (type_of (type_at tables) x))) (resolved tables a) t e)
    (with_gives types.BigInt (value_of (cell_named tables cell) users a) negated negated_gives v f)
checked_value tables cell users h (conjunction a b) t v e f =
    as_typed types.Boolean t v
    (two_typed types.Boolean tables conjunction (λ x y. with_term types.Boolean (conjunction x y) (type_of (type_at tables) (conjunction x y)) (two_of types.Boolean (λ k l. fits types.Boolean k && fits types.Boolean l) (type_of (type_at tables) x) (type_of (type_at tables) y))) (resolved tables a) (resolved tables b) t e)
    (with_gives types.Boolean (value_of (cell_named tables cell) users a) (λ x. and_then x (value_of (cell_named tables cell) users b)) (λ x. and_gives x (value_of (cell_named tables cell) users b)) v f)
checked_value tables cell users h (disjunction a b) t v e f =
    as_typed types.Boolean t v
    (two_typed types.Boolean tables disjunction (λ x y. with_term types.Boolean (disjunction x y) (type_of (type_at tables) (disjunction x y)) (two_of types.Boolean (λ k l. fits types.Boolean k && fits types.Boolean l) (type_of (type_at tables) x) (type_of (type_at tables) y))) (resolved tables a) (resolved tables b) t e)
    (with_gives types.Boolean (value_of (cell_named tables cell) users a) (λ x. or_else x (value_of (cell_named tables cell) users b)) (λ x. or_gives x (value_of (cell_named tables cell) users b)) v f)
checked_value tables cell users h (negation a) t v e f =
    as_typed types.Boolean t v
    (one_typed types.Boolean tables negation (λ x. with_term types.Boolean (negation x) (type_of (type_at tables) (negation x)) (one_of types.Boolean (λ k. typed_if (fits types.Boolean k) types.Boolean) (λ k. if_of (fits types.Boolean k) types.Boolean) (type_of (type_at tables) x))) (resolved tables a) t e)
    (with_gives types.Boolean (value_of (cell_named tables cell) users a) (λ x. Ok (not_value x)) (λ x. gives_ok types.Boolean (not_value x) (not_boolean x)) v f)
checked_value tables cell users h (null_test a) t v e f =
    as_typed types.Boolean t v
    (one_typed types.Boolean tables null_test (λ x. with_term types.Boolean (null_test x) (type_of (type_at tables) (null_test x)) (one_of types.Boolean (λ k. Ok (Some types.Boolean)) (λ k u g. sym (ok_inside (Some types.Boolean) u g)) (type_of (type_at tables) x))) (resolved tables a) t e)
    (with_gives types.Boolean (value_of (cell_named tables cell) users a) (λ x. Ok (Boolean (is_null x))) (λ x. gives_ok types.Boolean (Boolean (is_null x)) refl) v f)
checked_value tables cell users h (not_null_test a) t v e f =
    as_typed types.Boolean t v
    (one_typed types.Boolean tables not_null_test (λ x. with_term types.Boolean (not_null_test x) (type_of (type_at tables) (not_null_test x)) (one_of types.Boolean (λ k. Ok (Some types.Boolean)) (λ k u g. sym (ok_inside (Some types.Boolean) u g)) (type_of (type_at tables) x))) (resolved tables a) t e)
    (with_gives types.Boolean (value_of (cell_named tables cell) users a) (λ x. Ok (Boolean (not (is_null x)))) (λ x. gives_ok types.Boolean (Boolean (not (is_null x))) refl) v f)
checked_value tables cell users h (member_test a) t v e f =
    as_typed types.Boolean t v
    (one_typed types.Boolean tables member_test (λ x. with_term types.Boolean (member_test x) (type_of (type_at tables) (member_test x)) (one_of types.Boolean (λ k. typed_if (fits types.Text k) types.Boolean) (λ k. if_of (fits types.Text k) types.Boolean) (type_of (type_at tables) x))) (resolved tables a) t e)
    (with_gives types.Boolean (value_of (cell_named tables cell) users a) (λ x. Ok (member_value users x)) (λ x. gives_ok types.Boolean (member_value users x) (member_boolean users x)) v f)

-- ---- the type that is expected

expected_value : (k : ColumnType) (u : ValueType) (v : Value) → is_expected (Some k) u ≡ true → is_of u v ≡ true → is_of (Some k) v ≡ true
expected_value k None Null e h = refl
expected_value k None (Int n) e h = cc
expected_value k None (Text t) e h = cc
expected_value k None (Boolean b) e h = cc
expected_value types.BigInt (Some types.BigInt) v e h = h
expected_value types.BigInt (Some types.Text) v e h = cc
expected_value types.BigInt (Some types.Boolean) v e h = cc
expected_value types.Text (Some types.BigInt) v e h = cc
expected_value types.Text (Some types.Text) v e h = h
expected_value types.Text (Some types.Boolean) v e h = cc
expected_value types.Boolean (Some types.BigInt) v e h = cc
expected_value types.Boolean (Some types.Text) v e h = cc
expected_value types.Boolean (Some types.Boolean) v e h = h

-- the value of a part of a statement that was checked
pub part_value : (users : UserNames) (rows : List Row) (p : Part) (k : ColumnType) (u : Unit {0}) → check_type p ≡ Ok u → p.expected ≡ Some k → ((index : ColumnIndex) → is_of (type_at p.scope index) (cell_in rows index) ≡ true) →
    (v : Value) → value_on p.scope users rows p.term ≡ Ok v → is_of (Some k) v ≡ true
part_value users rows p k u e w h v f =
    let steps = bind_ok (names_then_types p.scope p.term) (λ t. require (is_expected p.expected t.value_type) DatatypeMismatch) u e in
    let expected : is_expected (Some k) steps.0.value_type ≡ true = subst (λ x. is_expected x steps.0.value_type ≡ true) w (require_ok (is_expected p.expected steps.0.value_type) DatatypeMismatch u steps.2) in
    expected_value k steps.0.value_type v expected (checked_value p.scope (cell_in rows) users h p.term steps.0 v steps.1 f)

-- ---- expressions that are bound

-- bound expressions have the values of what they were bound from
pub by_names : (scope : List ScopeTable) (users : UserNames) (rows : List Row) (terms : List (Term ColumnName)) (bound : List (Term ColumnIndex)) → each (resolved scope) terms ≡ Ok bound →
    each (bound_value users rows) bound ≡ each (value_on scope users rows) terms
by_names scope users rows [] bound e = ap (each (bound_value users rows)) (sym (ok_inside [] bound e))
by_names scope users rows (x ∷ xs) bound e =
    let first = bind_ok (resolved scope x) (λ y. each (resolved scope) xs >>= λ ys. Ok (y ∷ ys)) bound e in
    let rest = bind_ok (each (resolved scope) xs) (λ ys. Ok (first.0 ∷ ys)) bound first.2 in
    ap (each (bound_value users rows)) (sym (ok_inside (first.0 ∷ rest.0) bound rest.2))
    ∙ ap (λ o. o >>= λ y. each (bound_value users rows) rest.0 >>= λ ys. Ok (y ∷ ys)) (resolved_means scope (cell_in rows) users x first.0 first.1)
    ∙ ap (λ r. value_on scope users rows x >>= λ y. r >>= λ ys. Ok (y ∷ ys)) (by_names scope users rows xs rest.0 rest.1)

-- ---- new values beside their columns

beside_at : (k : ColumnType) (index c : ℕ) (v rest : Value) (b : Bool) → nat_eq index c ≡ b → (index ≡ c → is_of (Some k) v ≡ true) → is_of (Some k) rest ≡ true → is_of (Some k) (cond b v rest) ≡ true
beside_at k index c v rest true e f h = f (eqb-true index c e)
beside_at k index c v rest false e f h = h

module _ (layout : Layout) (scope : List ScopeTable) (users : UserNames) (rows : List Row) (cells : (index : ColumnIndex) → is_of (type_at scope index) (cell_in rows index) ≡ true)
    (index : ℕ) (k : ColumnType) (there : column_type layout index ≡ Some k) (old : Value) (was : is_of (Some k) old ≡ true) where
  new_beside : (columns : List ℕ) (terms : List (Term ColumnName)) (values : List Value) →
      ((p : Part) → Among p (value_parts scope layout columns terms) → (u : Unit {0}) × (check_type p ≡ Ok u)) → each (value_on scope users rows) terms ≡ Ok values →
      is_of (Some k) (value_beside index columns values old) ≡ true
  new_beside [] terms values ok e = was
  new_beside (c ∷ cs) [] values ok e = subst (λ vs. is_of (Some k) (value_beside index (c ∷ cs) vs old) ≡ true) (ok_inside [] values e) was
  new_beside (c ∷ cs) (x ∷ xs) values ok e =
      let first = bind_ok (value_on scope users rows x) (λ y. each (value_on scope users rows) xs >>= λ l. Ok (y ∷ l)) values e in
      let rest = bind_ok (each (value_on scope users rows) xs) (λ l. Ok (first.0 ∷ l)) values first.2 in
      let part : Part = record { scope = scope; term = x; expected = column_type layout c } in
      let fine = ok part (inl refl) in
      subst (λ vs. is_of (Some k) (value_beside index (c ∷ cs) vs old) ≡ true) (ok_inside (first.0 ∷ rest.0) values rest.2)
      (beside_at k index c first.0 (value_beside index cs rest.0 old) (nat_eq index c) refl
      (λ same. part_value users rows part k fine.0 fine.1 (ap (column_type layout) (sym same) ∙ there) cells first.0 first.1)
      (new_beside cs xs rest.0 (λ p h. ok p (inr h)) rest.1))

-- where each new value is of its column's type, a row that has the types of its columns keeps them
module _ (layout : Layout) (columns : List ℕ) (values : List Value)
    (fine : (index : ℕ) (k : ColumnType) → column_type layout index ≡ Some k → (old : Value) → is_of (Some k) old ≡ true → is_of (Some k) (value_beside index columns values old) ≡ true) where
  from_fits : (cs : List Column) (start : ℕ) → ((i : ℕ) → column_type layout (start + i) ≡ type_of_column (slice_get cs i)) → (row : Row) → length row ≤ length cs → RowFits cs row →
      RowFits cs (replaced_from start columns values row)
  from_fits cs start at [] short fit index = fit index
  from_fits [] start at (v ∷ vs) short fit index = absurd (omega (arith, short))
  from_fits (c ∷ cs) start at (v ∷ vs) short fit zero = fine start c.column_type (ap (column_type layout) (omega arith) ∙ at zero) v (fit zero)
  from_fits (c ∷ cs) start at (v ∷ vs) short fit (suc index) =
      from_fits cs (start + 1) (λ i. ap (column_type layout) (omega arith) ∙ at (suc i)) vs (omega (arith, short)) (λ i. fit (suc i)) index

  replaced_fits : (row : Row) → length row ≤ length layout.columns → RowFits layout.columns row → RowFits layout.columns (replaced columns values row)
  replaced_fits row short fit = from_fits layout.columns 0 (λ i. ap (column_type layout) (omega arith)) row short fit

-- ---- INSERT

nulls : (cs : List Column) (index : ℕ) → value_at (map (λ (c : Column). Null) cs) index ≡ Null
nulls [] index = refl
nulls (c ∷ cs) zero = refl
nulls (c ∷ cs) (suc index) = nulls cs index

nulls_fit : (layout : Layout) → RowFits layout.columns (map (λ c. Null) layout.columns)
nulls_fit layout index = ap (is_of (column_type layout index)) (nulls layout.columns index)

pub inserted_fits : (layout : Layout) (users : UserNames) (columns : List ℕ) (terms : List (Term ColumnName)) (bound : List (Term ColumnIndex)) (row : Row) →
    ((p : Part) → Among p (value_parts [] layout columns terms) → (u : Unit {0}) × (check_type p ≡ Ok u)) → each (resolved []) terms ≡ Ok bound → inserted_row layout users columns bound ≡ Ok row → RowFits layout.columns row
inserted_fits layout users columns terms bound row ok found e =
    let steps = bind_ok (each (bound_value users []) bound) (λ values. Ok (arranged layout columns values)) row e in
    subst (λ r. RowFits layout.columns r) (ok_inside (arranged layout columns steps.0) row steps.2)
    (replaced_fits layout columns steps.0
    (λ index k there old was. new_beside layout [] users [] (λ i. refl) index k there old was columns terms steps.0 ok (sym (by_names [] users [] terms bound found) ∙ steps.1))
    (map (λ c. Null) layout.columns) (omega (arith, length-map layout.columns (λ (c : Column). Null))) (nulls_fit layout))

-- ---- UPDATE

-- the cells of a row of the table are of the types of its columns
own_cells : (t : TableOf) (row : Row) → RowFits t.layout.columns row → (table index : ℕ) → is_of (type_at (own_scope t) (record { table = table; column = index })) (cell_in (row ∷ []) (record { table = table; column = index })) ≡ true
own_cells t row fit zero index = fit index
own_cells t row fit (suc table) index = refl

pub assigned_fits : (t : TableOf) (users : UserNames) (columns : List ℕ) (terms : List (Term ColumnName)) (bound : List (Term ColumnIndex)) (row new : Row) → length row ≤ length t.layout.columns → RowFits t.layout.columns row →
    ((p : Part) → Among p (value_parts (own_scope t) t.layout columns terms) → (u : Unit {0}) × (check_type p ≡ Ok u)) → each (resolved (own_scope t)) terms ≡ Ok bound →
    assigned users columns bound row ≡ Ok new → RowFits t.layout.columns new
assigned_fits t users columns terms bound row new short fit ok found e =
    let steps = bind_ok (each (bound_value users (row ∷ [])) bound) (λ values. Ok (replaced columns values row)) new e in
    subst (λ r. RowFits t.layout.columns r) (ok_inside (replaced columns steps.0 row) new steps.2)
    (replaced_fits t.layout columns steps.0
    (λ index k there old was. new_beside t.layout (own_scope t) users (row ∷ []) (λ i. own_cells t row fit i.table i.column) index k there old was columns terms steps.0 ok (sym (by_names (own_scope t) users (row ∷ []) terms bound found) ∙ steps.1))
    row short fit)

-- ---- CREATE TABLE

named_alike : (key : List TheName) (d : ColumnDefinition) (ds : List ColumnDefinition) → list_any (same_name (column_of key d)) (map (column_of key) ds) ≡ has_name d.column (map (λ x. x.column) ds)
named_alike key d [] = refl
named_alike key d (x ∷ xs) = ap (λ b. bytes_eq d.column x.column || b) (named_alike key d xs)

or_none : (a b : Bool) → (a || b) ≡ false → (a ≡ false) × (b ≡ false)
or_none true b e = cc
or_none false b e = (refl, e)

pub new_names_differ : (key : List TheName) (ds : List ColumnDefinition) → has_double (map (λ d. d.column) ds) ≡ false → all_differ same_name (map (column_of key) ds) ≡ true
new_names_differ key [] e = refl
new_names_differ key (d ∷ ds) e =
    let parts = or_none (has_name d.column (map (λ x. x.column) ds)) (has_double (map (λ x. x.column) ds)) e in
    ap (λ b. not b && all_differ same_name (map (column_of key) ds)) (named_alike key d ds ∙ parts.0) ∙ new_names_differ key ds parts.1
