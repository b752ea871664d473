-- The range that bounds leave has the key of each row that is within them, and keys of its table alone.
use Rattle.std.proofs.Common.{◌≡◌, ℕ, Bool, true, false, ◌&&◌, ◌||◌, nat_eq, List, [], ◌∷◌, ◌++◌, map, Option, Some, None, refl, sym, ap, subst, ◌∙◌, arith, append-nil, append_assoc}
use Rattle.std.specs.Borrow.{Bor}
use Rattle.std.specs.List.{list_all}
use Rattle.std.proofs.lemmas.Bool.Decides.{nat_tests}
use Rattle.std.specs.declared.cmp.Ordering.{Ordering}
use Rattle.std.specs.declared.cmp.Ordering.TheVariants.{Less, Equal, Greater}
use Rattle.std.specs.Ordering.{is_eq, is_lt}
use Rattle.sql_types.specs.declared.value.Value.{Value}
use Rattle.sql_types.specs.Row.{Row, value_at}
use Rattle.sql_ast.specs.declared.columns.Column.{Column}
use Rattle.sql_ast.specs.declared.columns.ColumnType.{ColumnType}
use Rattle.sql_ast.specs.Layout.{Layout, IsLayout, is_not_null_at}
use Rattle.sql_ast.specs.Fits.{IsOfType, FitsColumns}
use Rattle.expressions.specs.Meaning.{UserNames, value_of}
use Rattle.expressions.specs.Types.{TypedTerm}
use Rattle.expressions.proofs.OrderLaws.{compared_equal}
use Rattle.store.specs.Records.{key_cmp, is_from, is_not_less, has_prefix}
use Rattle.store.specs.Walks.{is_within}
use Rattle.store.proofs.Changes.{itself}
use Rattle.store.proofs.HeldItems.{same_front, own_prefix}
use Rattle.row_codec.specs.Cells.{key_cell}
use Rattle.row_codec.specs.Rows.{key_bytes, row_prefix}
use Rattle.row_codec.proofs.Layouts.{and_parts}
use Rattle.row_codec.proofs.Order.{of_one_type}
use Rattle.key_ranges.specs.declared.bounds.BoundKind.{BoundKind}
use Rattle.key_ranges.specs.declared.bounds.BoundKind.TheVariants as kind
use Rattle.key_ranges.specs.Bounds.{Bounds, bounds_of}
use Rattle.key_ranges.specs.Ranges.{is_in, IsRangeOf, HasKeysBehind, cell_of, span_after, by_value, range_after}
use Rattle.key_ranges.proofs.Conditions.{IsWithin, bounds_true, all_true}
use Rattle.key_ranges.proofs.Cells.{lower_cell, upper_cell}

-- ---- keys with one front

prefix_in : (f p k : List ℕ) → has_prefix (f ++ p) (f ++ k) ≡ has_prefix p k
prefix_in [] p k = refl
prefix_in (x ∷ f) p k = let t : nat_eq x x ≡ true = grind (arith, nat_tests) in rw t (prefix_in f p k)

from_in : (f a k : List ℕ) → is_from a k ≡ true → is_from (f ++ a) (f ++ k) ≡ true
from_in f a k h = ap is_not_less (same_front f k a) ∙ h

within_in : (f b k : List ℕ) → is_within b k ≡ true → is_within (f ++ b) (f ++ k) ≡ true
within_in f b k h =
    ap (λ t. t || is_lt (key_cmp (f ++ k) (f ++ b))) (prefix_in f b k)
    ∙ ap (λ o. has_prefix b k || is_lt o) (same_front f k b) ∙ h

from_nothing : (k : List ℕ) → is_from [] k ≡ true
from_nothing [] = refl
from_nothing (x ∷ k) = refl

-- ---- one column

lower_in : (t : ColumnType) (x : Value) (rest : List ℕ) → IsOfType t x → (o : Option Value) → ((v : Value) → o ≡ Some v → IsWithin kind.Lower x v) → is_from (cell_of o) (key_cell x ++ rest) ≡ true
lower_in t x rest p None w = from_nothing (key_cell x ++ rest)
lower_in t x rest p (Some v) w = lower_cell t x v rest p (w v refl)

upper_in : (t : ColumnType) (x : Value) (rest : List ℕ) → IsOfType t x → (o : Option Value) → ((v : Value) → o ≡ Some v → IsWithin kind.Upper x v) → is_within (cell_of o) (key_cell x ++ rest) ≡ true
upper_in t x rest p None w = refl
upper_in t x rest p (Some v) w = upper_cell t x v rest p (w v refl)

pub ordered_equal : (o : Ordering) → is_eq o ≡ true → o ≡ Equal
ordered_equal Less h = cc
ordered_equal Equal h = refl
ordered_equal Greater h = cc

equal_value : (x v : Value) → IsWithin kind.Equal x v → x ≡ v
equal_value x v w = compared_equal x v (w.compared ∙ ap (λ o. Some o) (ordered_equal w.order w.allowed))

both_pass : (a b : Bool) → a ≡ true → b ≡ true → (a && b) ≡ true
both_pass a b h k = rw (h, k) refl

-- ---- a row

-- a row is within the bounds of its columns
abbrev pub AreWithin : Bounds → Row → Type 0
AreWithin bounds row = (k : BoundKind) (index : ℕ) (v : Value) → bounds k index ≡ Some v → IsWithin k (value_at row index) v

module _ (columns : List Column) (row : Row) (bounds : Bounds) (fits : FitsColumns columns row) (within : AreWithin bounds row) where
  abbrev rest_of : List ℕ → List ℕ
  rest_of indices = key_bytes (map (value_at row) indices)

  in_span : (index : ℕ) (indices : List ℕ) (front : List ℕ) → is_not_null_at columns index ≡ true → is_in (span_after bounds index front) (front ++ rest_of (index ∷ indices)) ≡ true
  in_span index indices front marked =
      let one = of_one_type columns index row row marked fits fits in
      let x : Value = value_at row index in
      both_pass _ _
      (from_in front (cell_of (bounds kind.Lower index)) (key_cell x ++ rest_of indices) (lower_in one.kind x (rest_of indices) one.first (bounds kind.Lower index) (λ v e. within kind.Lower index v e)))
      (within_in front (cell_of (bounds kind.Upper index)) (key_cell x ++ rest_of indices) (upper_in one.kind x (rest_of indices) one.first (bounds kind.Upper index) (λ v e. within kind.Upper index v e)))

  pub in_range : (indices : List ℕ) → list_all (is_not_null_at columns) indices ≡ true → (front : List ℕ) → is_in (range_after bounds indices front) (front ++ rest_of indices) ≡ true
  in_range [] marked front = subst (λ k. is_eq (key_cmp k front) ≡ true) (sym (append-nil front)) (ap is_eq (itself front))
  in_range (index ∷ indices) marked front = go (bounds kind.Equal index) refl (λ v. in_range indices parts.1 (front ++ key_cell v))
    where
      parts : (is_not_null_at columns index ≡ true) × (list_all (is_not_null_at columns) indices ≡ true)
      parts = and_parts (is_not_null_at columns index) (list_all (is_not_null_at columns) indices) marked

      go : (o : Option Value) → o ≡ bounds kind.Equal index
          → ((v : Value) → is_in (range_after bounds indices (front ++ key_cell v)) ((front ++ key_cell v) ++ rest_of indices) ≡ true)
          → is_in (by_value o (λ v. range_after bounds indices (front ++ key_cell v)) (span_after bounds index front)) (front ++ rest_of (index ∷ indices)) ≡ true
      go None e later = in_span index indices front parts.0
      go (Some v) e later =
          let same : value_at row index ≡ v = equal_value (value_at row index) v (within kind.Equal index v (sym e)) in
          let key : front ++ rest_of (index ∷ indices) ≡ (front ++ key_cell v) ++ rest_of indices =
          ap (λ x. front ++ (key_cell x ++ rest_of indices)) same ∙ sym (append_assoc front (key_cell v) (rest_of indices)) in
          subst (λ k. is_in (range_after bounds indices (front ++ key_cell v)) k ≡ true) (sym key) (later v)

-- ---- the keys of the rows on which conditions are true

pub range_keys : (id : ℕ) (layout : Layout) (table : ℕ) (front : List (Bor Row)) (users : UserNames) (conditions : List TypedTerm) → IsLayout layout
    → HasKeysBehind id layout table front users conditions (range_after (bounds_of table users front conditions) layout.key (row_prefix id))
range_keys id layout table front users conditions is row cell fits beside behind met =
    in_range layout.columns row (bounds_of table users front conditions) fits.columns
    (λ k index v e. subst (λ x. IsWithin k x v) (beside index) (bounds_true front cell behind users k (record { table = table; column = index }) conditions v e (all_true (map (λ c. value_of cell users c.term) conditions) met)))
    layout.key is.key_not_null (row_prefix id)

-- ---- keys of one table

prefix_more : (p f x : List ℕ) → has_prefix p f ≡ true → has_prefix p (f ++ x) ≡ true
prefix_more [] f x h = refl
prefix_more (y ∷ p) [] x h = cc
prefix_more (y ∷ p) (z ∷ f) x h = go (nat_eq y z) h (prefix_more p f x)
  where
    go : (b : Bool) → (b && has_prefix p f) ≡ true → (has_prefix p f ≡ true → has_prefix p (f ++ x) ≡ true) → (b && has_prefix p (f ++ x)) ≡ true
    go true e later = later e
    go false e later = cc

range_begins : (id : ℕ) (bounds : Bounds) (indices : List ℕ) (front : List ℕ) → has_prefix (row_prefix id) front ≡ true → IsRangeOf id (range_after bounds indices front)
range_begins id bounds [] front h = h
range_begins id bounds (index ∷ indices) front h = go (bounds kind.Equal index) (λ v. range_begins id bounds indices (front ++ key_cell v) (prefix_more (row_prefix id) front (key_cell v) h))
  where
    go : (o : Option Value) → ((v : Value) → IsRangeOf id (range_after bounds indices (front ++ key_cell v)))
        → IsRangeOf id (by_value o (λ v. range_after bounds indices (front ++ key_cell v)) (span_after bounds index front))
    go None later = (prefix_more (row_prefix id) front (cell_of (bounds kind.Lower index)) h, prefix_more (row_prefix id) front (cell_of (bounds kind.Upper index)) h)
    go (Some v) later = later v

pub range_prefix : (id : ℕ) (bounds : Bounds) (indices : List ℕ) → IsRangeOf id (range_after bounds indices (row_prefix id))
range_prefix id bounds indices = range_begins id bounds indices (row_prefix id) (subst (λ k. has_prefix (row_prefix id) k ≡ true) (append-nil (row_prefix id)) (own_prefix (row_prefix id) []))
