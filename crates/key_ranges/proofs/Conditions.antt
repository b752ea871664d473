-- Where conditions are true, a column is within the bounds that they set.
use Rattle.std.proofs.Common.{◌≡◌, ℕ, Bool, true, false, not, ◌&&◌, if◌then◌else◌, nat_eq, List, [], ◌∷◌, map, Option, Some, None, Ok, Err, refl, sym, ap, subst, ◌∙◌, arith}
use Rattle.std.specs.Prelude.{slice_get}
use Rattle.std.specs.Borrow.{Bor}
use Rattle.std.specs.List.{AllByRecursion}
use Rattle.std.proofs.lemmas.Bool.Decides.{nat_tests}
use Rattle.std.specs.declared.cmp.Ordering.{Ordering}
use Rattle.std.specs.declared.cmp.Ordering.TheVariants.{Less, Equal, Greater}
use Rattle.std.specs.Ordering.{is_eq, is_lt, is_gt}
use Rattle.sql_types.specs.declared.value.Value.{Value}
use Rattle.sql_types.specs.declared.value.Value.TheVariants.{Null, Int, Text, Bool as Boolean}
use Rattle.sql_types.specs.Value.{compare_values}
use Rattle.sql_types.specs.Row.{Row, value_at}
use Rattle.sql_ast.specs.declared.expression.Comparison.{Comparison}
use Rattle.sql_ast.specs.declared.expression.Comparison.TheVariants as op
use Rattle.sql_ast.specs.declared.scope.ColumnIndex.{ColumnIndex}
use Rattle.sql_ast.specs.Term.{Term, literal, column, current_user, session_user, comparison, conjunction}
use Rattle.expressions.specs.Outcome.{Outcome, with_value, with_both}
use Rattle.expressions.specs.Operators.{compared, holds, holds_in}
use Rattle.expressions.specs.Truths.{true_value}
use Rattle.expressions.specs.Meaning.{UserNames, value_of, and_then}
use Rattle.expressions.specs.Types.{TypedTerm}
use Rattle.expressions.proofs.OrderLaws.{compared_less, compared_greater, compared_equal}
use Rattle.abstract_database.specs.Expressions.{all_of}
use Rattle.row_codec.proofs.Layouts.{and_parts}
use Rattle.key_ranges.specs.declared.bounds.BoundKind.{BoundKind}
use Rattle.key_ranges.specs.declared.bounds.BoundKind.TheVariants as kind
use Rattle.key_ranges.specs.Bounds.{sets_bound, exchanged, is_key_value, key_value, key_value_at, known, constant, is_column, first_of, bound_by, bound_in, bound_among}
use Rattle.key_ranges.specs.Ranges.{IsBehind}

-- ---- conditions joined by AND

and_true : (o p : Outcome) → with_value o (λ v. and_then v p) ≡ Ok true_value → (o ≡ Ok true_value) × (p ≡ Ok true_value)
and_true (Err code) p h = cc
and_true (Ok Null) (Err code) h = cc
and_true (Ok Null) (Ok Null) h = cc
and_true (Ok Null) (Ok (Int n)) h = cc
and_true (Ok Null) (Ok (Text t)) h = cc
and_true (Ok Null) (Ok (Boolean true)) h = cc
and_true (Ok Null) (Ok (Boolean false)) h = cc
and_true (Ok (Int n)) (Err code) h = cc
and_true (Ok (Int n)) (Ok Null) h = cc
and_true (Ok (Int n)) (Ok (Int m)) h = cc
and_true (Ok (Int n)) (Ok (Text t)) h = cc
and_true (Ok (Int n)) (Ok (Boolean true)) h = cc
and_true (Ok (Int n)) (Ok (Boolean false)) h = cc
and_true (Ok (Text s)) (Err code) h = cc
and_true (Ok (Text s)) (Ok Null) h = cc
and_true (Ok (Text s)) (Ok (Int m)) h = cc
and_true (Ok (Text s)) (Ok (Text t)) h = cc
and_true (Ok (Text s)) (Ok (Boolean true)) h = cc
and_true (Ok (Text s)) (Ok (Boolean false)) h = cc
and_true (Ok (Boolean false)) p h = cc
and_true (Ok (Boolean true)) (Err code) h = cc
and_true (Ok (Boolean true)) (Ok Null) h = cc
and_true (Ok (Boolean true)) (Ok (Int m)) h = cc
and_true (Ok (Boolean true)) (Ok (Text t)) h = cc
and_true (Ok (Boolean true)) (Ok (Boolean true)) h = (refl, refl)
and_true (Ok (Boolean true)) (Ok (Boolean false)) h = cc

all_true_from : (o : Outcome) (os : List Outcome) → all_of (o ∷ os) ≡ Ok true_value → (o ≡ Ok true_value) × AllByRecursion (λ o. o ≡ Ok true_value) os
all_true_from o [] h = (h, tt)
all_true_from o (p ∷ os) h =
    let rest = all_true_from (with_value o (λ v. and_then v p)) os h in
    let both = and_true o p rest.0 in
    (both.0, (both.1, rest.1))

-- each of the conditions is true
pub all_true : (os : List Outcome) → all_of os ≡ Ok true_value → AllByRecursion (λ o. o ≡ Ok true_value) os
all_true [] h = tt
all_true (o ∷ os) h = all_true_from o os h

-- ---- comparisons

-- the orderings of a column with its bound
abbrev pub allows : BoundKind → Ordering → Bool
allows kind.Equal o = is_eq o
allows kind.Lower o = not (is_lt o)
allows kind.Upper o = not (is_gt o)

-- a value is within a bound
pub record IsWithin (k : BoundKind) (x v : Value) : Type 0 where
  pub key_value : is_key_value v ≡ true
  pub order : Ordering
  pub compared : compare_values x v ≡ Some order
  pub allowed : allows k order ≡ true

bound_allows : (k : BoundKind) (p : Comparison) (o : Ordering) → sets_bound k p ≡ true → holds p o ≡ true → allows k o ≡ true
bound_allows kind.Equal op.Equal o s h = h
bound_allows kind.Lower op.Greater Less s h = cc
bound_allows kind.Lower op.Greater Equal s h = cc
bound_allows kind.Lower op.Greater Greater s h = refl
bound_allows kind.Lower op.GreaterOrEqual o s h = h
bound_allows kind.Upper op.Less Less s h = refl
bound_allows kind.Upper op.Less Equal s h = cc
bound_allows kind.Upper op.Less Greater s h = cc
bound_allows kind.Upper op.LessOrEqual o s h = h
bound_allows _ _ _ s h = cc

-- what holds of two values has an order in which it holds
record HoldsIn (p : Comparison) (x y : Value) : Type 0 where
  pub order : Ordering
  pub compared : compare_values x y ≡ Some order
  pub holds_there : holds p order ≡ true

held : (p : Comparison) (x y : Value) → compared p x y ≡ true_value → HoldsIn p x y
held p x y h = go (compare_values x y) refl h
  where
    go : (o : Option Ordering) → o ≡ compare_values x y → holds_in p o ≡ true_value → HoldsIn p x y
    go None e t = cc
    go (Some r) e t = record { order = r; compared = sym e; holds_there = cc }

pub held_less : (p : Comparison) → holds p Less ≡ holds (exchanged p) Greater
held_less op.Equal = refl
held_less op.NotEqual = refl
held_less op.Less = refl
held_less op.LessOrEqual = refl
held_less op.Greater = refl
held_less op.GreaterOrEqual = refl

pub held_greater : (p : Comparison) → holds p Greater ≡ holds (exchanged p) Less
held_greater op.Equal = refl
held_greater op.NotEqual = refl
held_greater op.Less = refl
held_greater op.LessOrEqual = refl
held_greater op.Greater = refl
held_greater op.GreaterOrEqual = refl

pub held_equal : (p : Comparison) → holds p Equal ≡ holds (exchanged p) Equal
held_equal op.Equal = refl
held_equal op.NotEqual = refl
held_equal op.Less = refl
held_equal op.LessOrEqual = refl
held_equal op.Greater = refl
held_equal op.GreaterOrEqual = refl

-- a comparison that holds holds with its operands exchanged
held_exchanged : (p : Comparison) (x y : Value) → HoldsIn p x y → HoldsIn (exchanged p) y x
held_exchanged p x y h = go h.order h.compared h.holds_there
  where
    go : (o : Ordering) → compare_values x y ≡ Some o → holds p o ≡ true → HoldsIn (exchanged p) y x
    go Less e t = record { order = Greater; compared = compared_less x y e; holds_there = sym (held_less p) ∙ t }
    go Equal e t =
        let same : x ≡ y = compared_equal x y e in
        record { order = Equal; compared = subst (λ z. compare_values y z ≡ Some Equal) (sym same) (subst (λ z. compare_values z y ≡ Some Equal) same e); holds_there = sym (held_equal p) ∙ t }
    go Greater e t = record { order = Less; compared = compared_greater x y e; holds_there = sym (held_greater p) ∙ t }

-- a comparison that is true, by the values of its operands
record IsHeld (p : Comparison) (left right : Outcome) : Type 0 where
  pub x : Value
  pub y : Value
  pub left_is : left ≡ Ok x
  pub right_is : right ≡ Ok y
  pub holding : HoldsIn p x y

pub inside_ok : (v w : Value) → (let o : Outcome = Ok v in o) ≡ Ok w → v ≡ w
inside_ok v w e = cc

comparison_true : (p : Comparison) (left right : Outcome) → with_both left right (λ x y. Ok (compared p x y)) ≡ Ok true_value → IsHeld p left right
comparison_true p (Err code) right h = cc
comparison_true p (Ok x) (Err code) h = cc
comparison_true p (Ok x) (Ok y) h = record { x = x; y = y; left_is = refl; right_is = refl; holding = held p x y (inside_ok (compared p x y) true_value h) }

-- ---- bounds

test_true : {A : Type 0} (a b : Bool) (o : Option A) (v : A) → (if a && b then o else None) ≡ Some v → (a ≡ true) × (b ≡ true) × (o ≡ Some v)
test_true true true o v h = (refl, refl, h)
test_true true false o v h = cc
test_true false b o v h = cc

one_true : {A : Type 0} (a : Bool) (o : Option A) (v : A) → (if a then o else None) ≡ Some v → (a ≡ true) × (o ≡ Some v)
one_true true o v h = (refl, h)
one_true false o v h = cc

value_true : (w v : Value) → key_value w ≡ Some v → (w ≡ v) × (is_key_value v ≡ true)
value_true w v h =
    let t = one_true (is_key_value w) (Some w) v h in
    let same : w ≡ v = cc in
    (same, subst (λ z. is_key_value z ≡ true) same t.0)

-- a column of the first tables has the value that is known of it
known_true : (front : List (Bor Row)) (cell : ColumnIndex → Value) → IsBehind front cell → (c : ColumnIndex) (v : Value) → known front c ≡ Some v → (cell c ≡ v) × (is_key_value v ≡ true)
known_true front cell behind c v h = go (slice_get front c.table) (λ row e. behind c row e) h
  where
    go : (o : Option (Bor Row)) → ((row : Bor Row) → o ≡ Some row → cell c ≡ value_at row.now c.column) → key_value_at o c.column ≡ Some v → (cell c ≡ v) × (is_key_value v ≡ true)
    go None is h = cc
    go (Some row) is h = let t = value_true (value_at row.now c.column) v h in (is row refl ∙ t.0, t.1)

pub constant_true : (front : List (Bor Row)) (cell : ColumnIndex → Value) → IsBehind front cell → (users : UserNames) (b : Term ColumnIndex) (v : Value) → constant users front b ≡ Some v → (value_of cell users b ≡ Ok v) × (is_key_value v ≡ true)
constant_true front cell behind users (literal w) v h = let t = value_true w v h in (ap (λ z. Ok z) t.0, t.1)
constant_true front cell behind users (column c) v h = let t = known_true front cell behind c v h in (ap (λ z. Ok z) t.0, t.1)
constant_true front cell behind users current_user v h = let t = value_true (Text users.current) v h in (ap (λ z. Ok z) t.0, t.1)
constant_true front cell behind users session_user v h = let t = value_true (Text users.session) v h in (ap (λ z. Ok z) t.0, t.1)
constant_true front cell behind users _ v h = cc

pub same_number : (a b : ℕ) → nat_eq a b ≡ true → a ≡ b
same_number a b e = grind (arith, nat_tests)

pub same_index : (d c : ColumnIndex) → d.table ≡ c.table → d.column ≡ c.column → d ≡ c
same_index d c e f =
    let by_table : ℕ → ColumnIndex = λ n. record { table = n; column = d.column } in
    let by_column : ℕ → ColumnIndex = λ n. record { table = c.table; column = n } in
    ap by_table e ∙ ap by_column f

column_true : (cell : ColumnIndex → Value) (users : UserNames) (c : ColumnIndex) (a : Term ColumnIndex) → is_column c a ≡ true → value_of cell users a ≡ Ok (cell c)
column_true cell users c (column d) h =
    let t = and_parts (nat_eq d.table c.table) (nat_eq d.column c.column) h in
    ap (λ z. Ok (cell z)) (same_index d c (same_number d.table c.table t.0) (same_number d.column c.column t.1))
column_true cell users c _ h = cc

module _ (front : List (Bor Row)) (cell : ColumnIndex → Value) (behind : IsBehind front cell) (users : UserNames) (k : BoundKind) (c : ColumnIndex) where
  by_true : (p : Comparison) (a b : Term ColumnIndex) (v : Value) → bound_by k c users front p a b ≡ Some v → (x y : Value) → value_of cell users a ≡ Ok x → value_of cell users b ≡ Ok y → HoldsIn p x y → IsWithin k (cell c) v
  by_true p a b v h x y of_a of_b held =
      let t = test_true (is_column c a) (sets_bound k p) (constant users front b) v h in
      let known = constant_true front cell behind users b v t.2 in
      let same_x : x ≡ cell c = inside_ok x (cell c) (sym of_a ∙ column_true cell users c a t.0) in
      let same_y : y ≡ v = inside_ok y v (sym of_b ∙ known.0) in
      record {
        key_value = known.1;
        order = held.order;
        compared = subst (λ z. compare_values (cell c) z ≡ Some held.order) same_y (subst (λ z. compare_values z y ≡ Some held.order) same_x held.compared);
        allowed = bound_allows k p held.order t.1 held.holds_there;
      }

  -- a column is within the bound that a true condition sets
  pub bound_true : (t : Term ColumnIndex) (v : Value) → bound_in k c users front t ≡ Some v → value_of cell users t ≡ Ok true_value → IsWithin k (cell c) v
  bound_true (conjunction a b) v h true_t = go (bound_in k c users front a) refl h (λ w e. bound_true a w e parts.0) (λ e. bound_true b v e parts.1)
    where
      parts : (value_of cell users a ≡ Ok true_value) × (value_of cell users b ≡ Ok true_value)
      parts = and_true (value_of cell users a) (value_of cell users b) true_t

      go : (o : Option Value) → o ≡ bound_in k c users front a → first_of o (bound_in k c users front b) ≡ Some v
          → ((w : Value) → bound_in k c users front a ≡ Some w → IsWithin k (cell c) w) → (bound_in k c users front b ≡ Some v → IsWithin k (cell c) v) → IsWithin k (cell c) v
      go None e f of_a of_b = of_b f
      go (Some w) e f of_a of_b = of_a v (sym e ∙ f)
  bound_true (comparison p a b) v h true_t = go (bound_by k c users front p a b) refl h
    where
      both : IsHeld p (value_of cell users a) (value_of cell users b)
      both = comparison_true p (value_of cell users a) (value_of cell users b) true_t

      go : (o : Option Value) → o ≡ bound_by k c users front p a b → first_of o (bound_by k c users front (exchanged p) b a) ≡ Some v → IsWithin k (cell c) v
      go None e f = by_true (exchanged p) b a v f both.y both.x both.right_is both.left_is (held_exchanged p both.x both.y both.holding)
      go (Some w) e f = by_true p a b v (sym e ∙ f) both.x both.y both.left_is both.right_is both.holding
  bound_true _ v h true_t = cc

  -- and within the bound that one of true conditions sets
  pub bounds_true : (ts : List TypedTerm) (v : Value) → bound_among k c users front ts ≡ Some v → AllByRecursion (λ o. o ≡ Ok true_value) (map (λ t. value_of cell users t.term) ts) → IsWithin k (cell c) v
  bounds_true [] v h all = cc
  bounds_true (t ∷ ts) v h all = go (bound_in k c users front t.term) refl h (λ e. bounds_true ts v e all.1)
    where
      go : (o : Option Value) → o ≡ bound_in k c users front t.term → first_of o (bound_among k c users front ts) ≡ Some v → (bound_among k c users front ts ≡ Some v → IsWithin k (cell c) v) → IsWithin k (cell c) v
      go None e f later = later f
      go (Some w) e f later = bound_true t.term v (sym e ∙ f) all.0
