-- Conditions that are true of each row of which so much is known.
use Rattle.std.proofs.Common.{◌≡◌, ℕ, zero, suc, Bool, true, false, is_some, List, [], ◌∷◌, map, Option, Some, None, Result, Ok, Err, Bor, refl, sym, ap, subst, ◌∙◌}
use Rattle.std.specs.Prelude.{IfSome, IsOk, IsTrue}
use Rattle.std.specs.List.{list_any, AllByRecursion}
use Rattle.std.specs.Option.{option_map}
use Rattle.std.proofs.lemmas.Bool.{false≢true}
use Rattle.std.specs.declared.cmp.Ordering.{Ordering}
use Rattle.std.specs.declared.cmp.Ordering.TheVariants.{Less, Equal, Greater}
use Rattle.sql_types.specs.declared.value.Value.{Value}
use Rattle.sql_types.specs.declared.value.Value.TheVariants.{Null, Int, Text, Bool as Boolean}
use Rattle.sql_types.specs.declared.value.ValueRef.{ValueRef}
use Rattle.sql_types.specs.declared.value.Truth.{Truth}
use Rattle.sql_types.specs.declared.value.Truth.TheVariants as truth
use Rattle.sql_types.specs.Row.{Row, value_at}
use Rattle.sql_types.specs.Value.{owned, compare_values, truth_of}
use Rattle.sql_ast.specs.declared.expression.Comparison.{Comparison}
use Rattle.sql_ast.specs.declared.expression.Comparison.TheVariants as op
use Rattle.sql_ast.specs.declared.scope.ColumnIndex.{ColumnIndex}
use Rattle.sql_ast.specs.Term.{Term, column, comparison, conjunction, disjunction, member_test}
use Rattle.expressions.specs.Infallible.{NeverFails}
use Rattle.expressions.specs.Meaning.{UserNames, value_of, or_else, member_value}
use Rattle.expressions.specs.Operators.{compared, holds_in}
use Rattle.expressions.specs.Outcome.{Outcome, with_value}
use Rattle.expressions.specs.Rows.{value_on}
use Rattle.expressions.specs.Truths.{true_value}
use Rattle.expressions.specs.Types.{TypedTerm}
use Rattle.expressions.proofs.OrderLaws.{compared_equal, compared_greater, compared_less, compared_onward}
use Rattle.abstract_database.specs.Expressions.{cell_in}
use Rattle.abstract_database.specs.Queries.{condition_value}
use Rattle.guards.specs.declared.guard.Formula.{Formula}
use Rattle.guards.specs.Guards.{cells_of, formula_value, guard_value}
use Rattle.guards.specs.Truths.{and_all, is_met, or_any, or_truth}
use Rattle.guards.proofs.Truths.{all_decide, decided_any, formula_decides}
use Rattle.gathering.specs.Passed.{alone}
use Rattle.gathering.specs.Queries.{terms}
use Rattle.key_ranges.specs.declared.bounds.BoundKind.TheVariants as kind
use Rattle.key_ranges.specs.Boxes.{allows_in}
use Rattle.table_rows.specs.declared.target.Target.{Target}
use Rattle.table_rows.specs.Targets.{sees, users_of}
use Rattle.executor.specs.declared.known_columns.KnownColumn.{KnownColumn}
use Rattle.executor.specs.declared.known_columns.KnownColumns.{KnownColumns}
use Rattle.executor.specs.Certain.{AreCertain, AreFormulasCertain, AreLentCertain, HasKnownValue, HoldsAlikeOnLeft, HoldsAlikeOnRight, IsAnyCertain, IsNotBelow, IsNotAbove, IsColumnBound, IsBoundOf, IsCertain, IsFormulaCertain, HasKnown, IsOperand, bound_on_left, bound_on_right, value_alone}
use Rattle.executor.specs.Known.{known_value, or_null, AreTrue}
use Rattle.executor.proofs.Known.{is_true_if_met, known_is}

-- ---- what is not less, and what is greater

abbrev NotLess : Value → Value → Type 0
NotLess x v = allows_in kind.Lower (compare_values x v) ≡ true

abbrev IsGreater : Value → Value → Type 0
IsGreater x v = compare_values x v ≡ Some Greater

-- what is not less is the same or greater
by_not_less : (x v : Value) (P : Type 0) → NotLess x v → (x ≡ v → P) → (IsGreater x v → P) → P
by_not_less x v P h same greater = go (compare_values x v) refl h
  where
    go : (o : Option Ordering) → compare_values x v ≡ o → allows_in kind.Lower o ≡ true → P
    go None is e = cc
    go (Some Less) is e = cc
    go (Some Equal) is e = same (compared_equal x v is)
    go (Some Greater) is e = greater is

greater_on : (x v w : Value) → IsGreater x v → IsGreater v w → IsGreater x w
greater_on x v w first second = compared_less w x (compared_onward w v x (compared_greater v w second) (compared_greater x v first))

not_less : (x v : Value) → IsGreater x v → NotLess x v
not_less x v h = ap (allows_in kind.Lower) h

greater_from : (x v w : Value) → NotLess x v → IsGreater v w → IsGreater x w
greater_from x v w first second = by_not_less x v (IsGreater x w) first (λ same. subst (λ y. IsGreater y w) (sym same) second) (λ greater. greater_on x v w greater second)

greater_to : (x v w : Value) → IsGreater x v → NotLess v w → IsGreater x w
greater_to x v w first second = by_not_less v w (IsGreater x w) second (λ same. subst (λ y. IsGreater x y) same first) (λ greater. greater_on x v w first greater)

not_less_on : (x v w : Value) → NotLess x v → NotLess v w → NotLess x w
not_less_on x v w first second = by_not_less v w (NotLess x w) second (λ same. subst (λ y. NotLess x y) same first) (λ greater. not_less x w (greater_from x v w first greater))

-- an upper bound is not less
turned_bound : (x v : Value) → allows_in kind.Upper (compare_values x v) ≡ true → NotLess v x
turned_bound x v h = go (compare_values x v) refl h
  where
    go : (o : Option Ordering) → compare_values x v ≡ o → allows_in kind.Upper o ≡ true → NotLess v x
    go None is e = cc
    go (Some Less) is e = not_less v x (compared_less x v is)
    go (Some Equal) is e =
        let same : x ≡ v = compared_equal x v is in
        let itself : compare_values v v ≡ Some Equal = subst (λ y. compare_values y v ≡ Some Equal) same is in
        subst (λ y. NotLess v y) (sym same) (ap (allows_in kind.Lower) itself)
    go (Some Greater) is e = cc

-- ---- comparisons

greater_is : (x v : Value) → compared op.Greater x v ≡ true_value → IsGreater x v
greater_is x v h = go (compare_values x v) refl h
  where
    go : (o : Option Ordering) → compare_values x v ≡ o → holds_in op.Greater o ≡ true_value → IsGreater x v
    go None is e = cc
    go (Some Less) is e = cc
    go (Some Equal) is e = cc
    go (Some Greater) is e = is

is_greater : (x v : Value) → IsGreater x v → compared op.Greater x v ≡ true_value
is_greater x v h = ap (holds_in op.Greater) h

less_is : (x v : Value) → compared op.Less x v ≡ true_value → IsGreater v x
less_is x v h = go (compare_values x v) refl h
  where
    go : (o : Option Ordering) → compare_values x v ≡ o → holds_in op.Less o ≡ true_value → IsGreater v x
    go None is e = cc
    go (Some Less) is e = compared_less x v is
    go (Some Equal) is e = cc
    go (Some Greater) is e = cc

is_less : (x v : Value) → IsGreater v x → compared op.Less x v ≡ true_value
is_less x v h = ap (holds_in op.Less) (compared_greater v x h)

not_less_is : (x v : Value) → compared op.GreaterOrEqual x v ≡ true_value → NotLess x v
not_less_is x v h = go (compare_values x v) refl h
  where
    go : (o : Option Ordering) → compare_values x v ≡ o → holds_in op.GreaterOrEqual o ≡ true_value → NotLess x v
    go None is e = cc
    go (Some Less) is e = cc
    go (Some Equal) is e = ap (allows_in kind.Lower) is
    go (Some Greater) is e = ap (allows_in kind.Lower) is

is_not_less : (x v : Value) → NotLess x v → compared op.GreaterOrEqual x v ≡ true_value
is_not_less x v h = go (compare_values x v) refl h
  where
    go : (o : Option Ordering) → compare_values x v ≡ o → allows_in kind.Lower o ≡ true → compared op.GreaterOrEqual x v ≡ true_value
    go None is e = cc
    go (Some Less) is e = cc
    go (Some Equal) is e = ap (holds_in op.GreaterOrEqual) is
    go (Some Greater) is e = ap (holds_in op.GreaterOrEqual) is

not_greater_is : (x v : Value) → compared op.LessOrEqual x v ≡ true_value → NotLess v x
not_greater_is x v h = go (compare_values x v) refl h
  where
    go : (o : Option Ordering) → compare_values x v ≡ o → holds_in op.LessOrEqual o ≡ true_value → NotLess v x
    go None is e = cc
    go (Some Less) is e = turned_bound x v (ap (allows_in kind.Upper) is)
    go (Some Equal) is e = turned_bound x v (ap (allows_in kind.Upper) is)
    go (Some Greater) is e = cc

is_not_greater : (x v : Value) → NotLess v x → compared op.LessOrEqual x v ≡ true_value
is_not_greater x v h = by_not_less v x (compared op.LessOrEqual x v ≡ true_value) h
    (λ same. go (compare_values v x) refl h same) (λ greater. ap (holds_in op.LessOrEqual) (compared_greater v x greater))
  where
    go : (o : Option Ordering) → compare_values v x ≡ o → allows_in kind.Lower o ≡ true → v ≡ x → compared op.LessOrEqual x v ≡ true_value
    go None is e same = cc
    go (Some Less) is e same = cc
    go (Some Equal) is e same =
        let itself : compare_values x x ≡ Some Equal = subst (λ y. compare_values y x ≡ Some Equal) same is in
        ap (holds_in op.LessOrEqual) (subst (λ y. compare_values x y ≡ Some Equal) (sym same) itself)
    go (Some Greater) is e same = ap (holds_in op.LessOrEqual) (compared_greater v x is)

-- ---- the bounds of a column

least_of : (known : KnownColumns) (k : KnownColumn) → known.least ≡ Some k → (row : Row) → HasKnown known row → NotLess (value_at row k.index) (owned k.value)
least_of known k is row so = subst (λ (o : Option KnownColumn). IsNotBelow row o) is so.least

greatest_of : (known : KnownColumns) (k : KnownColumn) → known.greatest ≡ Some k → (row : Row) → HasKnown known row → NotLess (owned k.value) (value_at row k.index)
greatest_of known k is row so = turned_bound (value_at row k.index) (owned k.value) (subst (λ (o : Option KnownColumn). IsNotAbove row o) is so.greatest)

bound_left : (known : KnownColumns) (operator : Comparison) (k : KnownColumn) → bound_on_left known operator ≡ Some k → IsColumnBound (HoldsAlikeOnLeft operator) known k
bound_left known op.Greater k is row so w h = is_greater _ w (greater_from (value_at row k.index) (owned k.value) w (least_of known k is row so) (greater_is _ w h))
bound_left known op.GreaterOrEqual k is row so w h = is_not_less _ w (not_less_on (value_at row k.index) (owned k.value) w (least_of known k is row so) (not_less_is _ w h))
bound_left known op.Less k is row so w h = is_less _ w (greater_to w (owned k.value) (value_at row k.index) (less_is _ w h) (greatest_of known k is row so))
bound_left known op.LessOrEqual k is row so w h = is_not_greater _ w (not_less_on w (owned k.value) (value_at row k.index) (not_greater_is _ w h) (greatest_of known k is row so))
bound_left known op.Equal k is row so w h = cc
bound_left known op.NotEqual k is row so w h = cc

bound_right : (known : KnownColumns) (operator : Comparison) (k : KnownColumn) → bound_on_right known operator ≡ Some k → IsColumnBound (HoldsAlikeOnRight operator) known k
bound_right known op.Greater k is row so w h = is_greater w _ (greater_to w (owned k.value) (value_at row k.index) (greater_is w _ h) (greatest_of known k is row so))
bound_right known op.GreaterOrEqual k is row so w h = is_not_less w _ (not_less_on w (owned k.value) (value_at row k.index) (not_less_is w _ h) (greatest_of known k is row so))
bound_right known op.Less k is row so w h = is_less w _ (greater_from (value_at row k.index) (owned k.value) w (least_of known k is row so) (less_is w _ h))
bound_right known op.LessOrEqual k is row so w h = is_not_greater w _ (not_less_on (value_at row k.index) (owned k.value) w (least_of known k is row so) (not_greater_is w _ h))
bound_right known op.Equal k is row so w h = cc
bound_right known op.NotEqual k is row so w h = cc

-- ---- operands

column_known : (known : KnownColumns) (users : UserNames) (index : ColumnIndex) (v : ValueRef) → index.table ≡ 0 → known_value index.column known.columns ≡ Some (owned v) → HasKnownValue known users (column index) (owned v)
column_known known users index v first is row so =
    ap (λ n. Ok (cell_in (alone row) (record { table = n; column = index.column }))) first
    ∙ ap Ok (known_is row known.columns index.column so.values (ap is_some is) ∙ ap or_null is)

-- the value that was found of a column, if it was
pub found_known : (known : KnownColumns) (users : UserNames) (term : Term ColumnIndex) (index : ColumnIndex) (r : Option ValueRef) → term ≡ column index → index.table ≡ 0 → option_map owned r ≡ known_value index.column known.columns
    → IfSome r (λ v. HasKnownValue known users term (owned v))
found_known known users term index None is first found = tt
found_known known users term index (Some v) is first found = subst (λ t. HasKnownValue known users t (owned v)) (sym is) (column_known known users index v first (sym found))

pub value_is_operand : (Alike : Value → Value → Type 0) (known : KnownColumns) (users : UserNames) (term : Term ColumnIndex) (v : Value) → Alike v v → HasKnownValue known users term v → IsOperand Alike known users term v
value_is_operand Alike known users term v alike has row so = (v, has row so, alike)

bound_is_operand : (Alike : Value → Value → Type 0) (known : KnownColumns) (users : UserNames) (term : Term ColumnIndex) (k : KnownColumn) → term ≡ column (record { table = 0; column = k.index }) → IsColumnBound Alike known k
    → IsOperand Alike known users term (owned k.value)
bound_is_operand Alike known users term k is bound row so = (value_at row k.index, ap (value_alone users row) is, bound row so)

pub on_left_value : (known : KnownColumns) (users : UserNames) (operator : Comparison) (term : Term ColumnIndex) (v : Value) → HasKnownValue known users term v → IsOperand (HoldsAlikeOnLeft operator) known users term v
on_left_value known users operator term v has = value_is_operand (HoldsAlikeOnLeft operator) known users term v (λ w h. h) has

pub on_right_value : (known : KnownColumns) (users : UserNames) (operator : Comparison) (term : Term ColumnIndex) (v : Value) → HasKnownValue known users term v → IsOperand (HoldsAlikeOnRight operator) known users term v
on_right_value known users operator term v has = value_is_operand (HoldsAlikeOnRight operator) known users term v (λ w h. h) has

pub on_left_bound : (known : KnownColumns) (users : UserNames) (operator : Comparison) (term : Term ColumnIndex) (r : Option ValueRef) → IfSome r (IsBoundOf term (bound_on_left known operator))
    → IfSome r (λ v. IsOperand (HoldsAlikeOnLeft operator) known users term (owned v))
on_left_bound known users operator term None of = tt
on_left_bound known users operator term (Some v) of =
    subst (λ w. IsOperand (HoldsAlikeOnLeft operator) known users term (owned w)) (sym of.value)
    (bound_is_operand (HoldsAlikeOnLeft operator) known users term of.bound of.column_is (bound_left known operator of.bound of.is))

pub on_right_bound : (known : KnownColumns) (users : UserNames) (operator : Comparison) (term : Term ColumnIndex) (r : Option ValueRef) → IfSome r (IsBoundOf term (bound_on_right known operator))
    → IfSome r (λ v. IsOperand (HoldsAlikeOnRight operator) known users term (owned v))
on_right_bound known users operator term None of = tt
on_right_bound known users operator term (Some v) of =
    subst (λ w. IsOperand (HoldsAlikeOnRight operator) known users term (owned w)) (sym of.value)
    (bound_is_operand (HoldsAlikeOnRight operator) known users term of.bound of.column_is (bound_right known operator of.bound of.is))

-- ---- conditions

pub compares : (known : KnownColumns) (users : UserNames) (operator : Comparison) (a b : Term ColumnIndex) (v w : Value) → IsOperand (HoldsAlikeOnLeft operator) known users a v → IsOperand (HoldsAlikeOnRight operator) known users b w
    → compared operator v w ≡ true_value → IsCertain known users (comparison operator a b)
compares known users operator a b v w left right holds row so =
    let x = left row so in
    let y = right row so in
    rw (x.1, y.1) (ap (λ z. let o : Outcome = Ok z in o) (y.2 x.0 (x.2 w holds)))

pub is_role_of : (known : KnownColumns) (users : UserNames) (term : Term ColumnIndex) (name : List ℕ) → HasKnownValue known users term (Text name) → users.is_in name ≡ true → IsCertain known users (member_test term)
is_role_of known users term name has is_in row so = rw (has row so) (ap (λ b. let o : Outcome = Ok (Boolean b) in o) is_in)

pub both_certain : (known : KnownColumns) (users : UserNames) (a b : Term ColumnIndex) → IsCertain known users a → IsCertain known users b → IsCertain known users (conjunction a b)
both_certain known users a b first second row so = rw (first row so, second row so) refl

pub left_certain : (known : KnownColumns) (users : UserNames) (a b : Term ColumnIndex) → IsCertain known users a → IsCertain known users (disjunction a b)
left_certain known users a b first row so = rw (first row so) refl

or_true : (x : Value) → or_else x (Ok true_value) ≡ Ok true_value
or_true Null = refl
or_true (Int n) = refl
or_true (Text t) = refl
or_true (Boolean true) = refl
or_true (Boolean false) = refl

pub right_certain : (known : KnownColumns) (users : UserNames) (a b : Term ColumnIndex) → NeverFails a → IsCertain known users b → IsCertain known users (disjunction a b)
right_certain known users a b never second row so = rw (second row so) (go (value_alone users row a) (never (cell_in (alone row)) users))
  where
    go : (o : Outcome) → IsOk o → with_value o (λ x. or_else x (Ok true_value)) ≡ Ok true_value
    go (Ok x) is = or_true x
    go (Err code) is = absurd (false≢true is)

-- ---- row security

-- behind a condition that has a value, one of the others is true
pub any_later : (known : KnownColumns) (users : UserNames) (c : Bor TypedTerm) (cs : List (Bor TypedTerm)) → NeverFails c.now.term → IsAnyCertain known users cs → IsAnyCertain known users (c ∷ cs)
any_later known users c cs never later row so before = go before (value_alone users row c.now.term) (never (cell_in (alone row)) users)
  where
    rest : List Outcome
    rest = map (λ (d : Bor TypedTerm). value_alone users row d.now.term) cs

    go : (t : Truth) (o : Outcome) → IsOk o → or_any t (o ∷ rest) ≡ Ok truth.True
    go truth.True o is = refl
    go truth.False (Ok v) is = later row so (or_truth truth.False (truth_of v))
    go truth.Null (Ok v) is = later row so (or_truth truth.Null (truth_of v))
    go truth.False (Err code) is = absurd (false≢true is)
    go truth.Null (Err code) is = absurd (false≢true is)

pub any_here : (known : KnownColumns) (users : UserNames) (c : Bor TypedTerm) (cs : List (Bor TypedTerm)) → IsCertain known users c.now.term → IsAnyCertain known users (c ∷ cs)
any_here known users c cs certain row so before = go before (value_alone users row c.now.term) (certain row so)
  where
    rest : List Outcome
    rest = map (λ (d : Bor TypedTerm). value_alone users row d.now.term) cs

    go : (t : Truth) (o : Outcome) → o ≡ Ok true_value → or_any t (o ∷ rest) ≡ Ok truth.True
    go truth.True o is = refl
    go truth.False o is = rw is (decided_any rest)
    go truth.Null o is = rw is (decided_any rest)

lent_true : (known : KnownColumns) (users : UserNames) (cs : List (Bor TypedTerm)) → AreLentCertain known users cs → (row : Row) → HasKnown known row
    → and_all truth.True (map (λ (c : Bor TypedTerm). value_on (cells_of (alone row)) users c.now) cs) ≡ Ok truth.True
lent_true known users [] all row so = refl
lent_true known users (c ∷ cs) all row so = rw (all.0 row so) (lent_true known users cs all.1 row so)

pub formula_certain : (known : KnownColumns) (users : UserNames) (f : Formula) → IsAnyCertain known users f.permissive → AreLentCertain known users f.restrictive → IsFormulaCertain known users f
formula_certain known users f any all row so =
    is_true_if_met (formula_value users f (cells_of (alone row)))
    (formula_decides (cells_of (alone row)) users f truth.True truth.True (sym (any row so truth.False)) (sym (lent_true known users f.restrictive all row so)))

guard_true : (known : KnownColumns) (users : UserNames) (fs : List Formula) → AreFormulasCertain known users fs → (row : Row) → HasKnown known row → guard_value users fs (cells_of (alone row)) ≡ Ok true_value
guard_true known users [] all row so = refl
guard_true known users (f ∷ fs) all row so = rw (all.0 row so) (guard_true known users fs all.1 row so)

all_true : (known : KnownColumns) (users : UserNames) (cs : List TypedTerm) → AreCertain known users cs → (row : Row) → HasKnown known row
    → and_all truth.True (map (value_alone users row) (terms cs)) ≡ Ok truth.True
all_true known users [] all row so = refl
all_true known users (c ∷ cs) all row so = rw (all.0 row so) (all_true known users cs all.1 row so)

pub let_through : (known : KnownColumns) (table : Target) (users : UserNames) (cs : List TypedTerm) → AreFormulasCertain known (users_of table) table.guard.now.existing → AreCertain known users cs → AreTrue known table users cs
let_through known table users cs guarded conditions row so = record {
  seen = guard_true known (users_of table) table.guard.now.existing guarded row so;
  met = is_true_if_met (condition_value users (terms cs) (alone row)) (all_decide (map (value_alone users row) (terms cs)) truth.True (sym (all_true known users cs conditions row so)));
}
