-- The value with whose cell a bound of a span begins bounds the column of each row whose key is in the span.
use Rattle.std.proofs.Common.{◌≡◌, ◌⊎◌, ℕ, zero, suc, Bool, true, false, ◌&&◌, ◌||◌, nat_eq, List, [], ◌∷◌, ◌++◌, map, Option, Some, None, refl, sym, ap, subst, ◌∙◌, append_assoc, append-nil, arith, inl, inr}
use Rattle.std.specs.Prelude.{slice_get}
use Rattle.std.proofs.lemmas.Bool.Decides.{nat_tests}
use Rattle.std.proofs.lemmas.Cmp.{nat_list_cmp_total}
use Rattle.std.specs.declared.cmp.Ordering.{Ordering}
use Rattle.std.specs.declared.cmp.Ordering.TheVariants.{Less, Equal, Greater}
use Rattle.std.specs.Ordering.{nat_cmp, is_lt, ordering_reverse, ordering_then}
use Rattle.sql_types.specs.declared.value.Value.{Value}
use Rattle.sql_types.specs.declared.value.Value.TheVariants.{Null, Int, Text, Bool as Boolean}
use Rattle.sql_types.specs.Row.{Row, value_at}
use Rattle.sql_types.specs.Value.{owned, compare_values, order_of}
use Rattle.sql_ast.specs.declared.columns.Column.{Column}
use Rattle.sql_ast.specs.declared.columns.ColumnType.{ColumnType}
use Rattle.sql_ast.specs.declared.columns.ColumnType.TheVariants as type
use Rattle.sql_ast.specs.Fits.{IsOfType}
use Rattle.sql_ast.specs.Layout.{Layout, is_not_null_at}
use Rattle.store.specs.Records.{key_cmp, has_prefix, is_from, is_not_less}
use Rattle.store.specs.Walks.{is_within}
use Rattle.store.proofs.Changes.{after, itself}
use Rattle.store.proofs.HeldItems.{same_front}
use Rattle.row_codec.specs.Cells.{key_cell}
use Rattle.row_codec.specs.Rows.{key_bytes}
use Rattle.row_codec.proofs.Layouts.{and_parts}
use Rattle.row_codec.proofs.Order.{keys_order}
use Rattle.key_ranges.specs.declared.bounds.BoundKind.TheVariants as kind
use Rattle.key_ranges.specs.Boxes.{allows_in}
use Rattle.key_ranges.specs.declared.range.KeyRange.TheVariants.{Span}
use Rattle.key_ranges.specs.Ranges.{is_in}
use Rattle.executor.specs.declared.known_columns.KnownColumn.{KnownColumn}
use Rattle.executor.specs.Certain.{BeginsWithCell}
use Rattle.executor.specs.FoundOrder.{GoesOnBetween}
use Rattle.executor.proofs.FoundOrder.{fits_alone, front_of, of_column, of_kind, same_cell}

-- ---- bytes

-- bytes that come before others stay so, whatever follows both, but where they are the front of those
below : (a b : List ℕ) → key_cmp a b ≡ Less → (has_prefix a b ≡ true) ⊎ ((r s : List ℕ) → key_cmp (a ++ r) (b ++ s) ≡ Less)
below [] [] h = cc
below [] (y ∷ b) h = inl refl
below (x ∷ a) [] h = cc
below (x ∷ a) (y ∷ b) h = go (nat_cmp x y) refl h (λ e. below a b e)
  where
    go : (o : Ordering) → nat_cmp x y ≡ o → ordering_then o (key_cmp a b) ≡ Less → (key_cmp a b ≡ Less → (has_prefix a b ≡ true) ⊎ ((r s : List ℕ) → key_cmp (a ++ r) (b ++ s) ≡ Less))
        → ((nat_eq x y && has_prefix a b) ≡ true) ⊎ ((r s : List ℕ) → ordering_then (nat_cmp x y) (key_cmp (a ++ r) (b ++ s)) ≡ Less)
    go Less is e later = inr (λ r s. ap (λ o. ordering_then o (key_cmp (a ++ r) (b ++ s))) is)
    go Equal is e later = of (later e)
      where
        same : nat_eq x y ≡ true
        same = grind (arith, nat_tests, is)

        of : (has_prefix a b ≡ true) ⊎ ((r s : List ℕ) → key_cmp (a ++ r) (b ++ s) ≡ Less) → ((nat_eq x y && has_prefix a b) ≡ true) ⊎ ((r s : List ℕ) → ordering_then (nat_cmp x y) (key_cmp (a ++ r) (b ++ s)) ≡ Less)
        of (inl front) = inl (ap (λ t. t && has_prefix a b) same ∙ front)
        of (inr less) = inr (λ r s. ap (λ o. ordering_then o (key_cmp (a ++ r) (b ++ s))) is ∙ less r s)
    go Greater is e later = cc

turned : (a b : List ℕ) → key_cmp a b ≡ Greater → key_cmp b a ≡ Less
turned a b h = nat_list_cmp_total.antisymm b a ∙ ap ordering_reverse h

-- one front changes nothing
prefix_behind : (p a b : List ℕ) → has_prefix (p ++ a) (p ++ b) ≡ has_prefix a b
prefix_behind [] a b = refl
prefix_behind (x ∷ p) a b = let t : nat_eq x x ≡ true = grind (arith, nat_tests) in rw t (prefix_behind p a b)

from_behind : (p a b : List ℕ) → is_from (p ++ a) (p ++ b) ≡ is_from a b
from_behind p a b = ap is_not_less (same_front p b a)

within_behind : (p a b : List ℕ) → is_within (p ++ a) (p ++ b) ≡ is_within a b
within_behind p a b = ap (λ t. t || is_lt (key_cmp (p ++ b) (p ++ a))) (prefix_behind p a b) ∙ ap (λ o. has_prefix a b || is_lt o) (same_front p b a)

-- ---- cells of one type

-- how two values compare, and their cells
record CellsCompare (x v : Value) : Type 0 where
  order : Ordering
  values : compare_values x v ≡ Some order
  cells : key_cmp (key_cell x) (key_cell v) ≡ order

then_equal : (o : Ordering) → ordering_then o Equal ≡ o
then_equal Less = refl
then_equal Equal = refl
then_equal Greater = refl

cells_order : (t : ColumnType) (x v : Value) → IsOfType t x → IsOfType t v → key_cmp (key_cell x) (key_cell v) ≡ order_of x v
cells_order t x v of_x of_v =
    ap (λ (a : List ℕ). key_cmp a (key_cell v)) (sym (append-nil (key_cell x))) ∙ ap (λ (b : List ℕ). key_cmp (key_cell x ++ []) b) (sym (append-nil (key_cell v)))
    ∙ keys_order (of_kind t ∷ []) (0 ∷ []) (x ∷ []) (v ∷ []) refl (fits_alone t x of_x) (fits_alone t v of_v) ∙ then_equal (order_of x v)

values_order : (t : ColumnType) (x v : Value) → IsOfType t x → IsOfType t v → compare_values x v ≡ Some (order_of x v)
values_order type.BigInt (Int a) (Int b) p q = refl
values_order type.Text (Text a) (Text b) p q = refl
values_order type.Boolean (Boolean a) (Boolean b) p q = refl
values_order type.BigInt Null v p q = absurd p
values_order type.BigInt (Int a) Null p q = absurd q
values_order type.BigInt (Int a) (Text t) p q = absurd q
values_order type.BigInt (Int a) (Boolean b) p q = absurd q
values_order type.BigInt (Text t) v p q = absurd p
values_order type.BigInt (Boolean b) v p q = absurd p
values_order type.Text Null v p q = absurd p
values_order type.Text (Int a) v p q = absurd p
values_order type.Text (Text t) Null p q = absurd q
values_order type.Text (Text t) (Int b) p q = absurd q
values_order type.Text (Text t) (Boolean b) p q = absurd q
values_order type.Text (Boolean b) v p q = absurd p
values_order type.Boolean Null v p q = absurd p
values_order type.Boolean (Int a) v p q = absurd p
values_order type.Boolean (Text t) v p q = absurd p
values_order type.Boolean (Boolean b) Null p q = absurd q
values_order type.Boolean (Boolean b) (Int a) p q = absurd q
values_order type.Boolean (Boolean b) (Text t) p q = absurd q

compare_cells : (t : ColumnType) (x v : Value) → IsOfType t x → IsOfType t v → CellsCompare x v
compare_cells t x v of_x of_v = record { order = order_of x v; values = values_order t x v of_x of_v; cells = cells_order t x v of_x of_v }

-- a cell that comes before another does so whatever follows both
cell_below : (t : ColumnType) (x v : Value) → IsOfType t x → IsOfType t v → key_cmp (key_cell x) (key_cell v) ≡ Less → (r s : List ℕ) → key_cmp (key_cell x ++ r) (key_cell v ++ s) ≡ Less
cell_below t x v of_x of_v less r s = go (below (key_cell x) (key_cell v) less)
  where
    go : (has_prefix (key_cell x) (key_cell v) ≡ true) ⊎ ((r s : List ℕ) → key_cmp (key_cell x ++ r) (key_cell v ++ s) ≡ Less) → key_cmp (key_cell x ++ r) (key_cell v ++ s) ≡ Less
    go (inl front) =
        let found = front_of (key_cell x) (key_cell v) front in
        let same : v ≡ x = same_cell t v x [] found.0 of_v of_x (append-nil (key_cell v) ∙ found.1) in
        let equal : key_cmp (key_cell x) (key_cell v) ≡ Equal = ap (λ w. key_cmp (key_cell x) (key_cell w)) same ∙ itself (key_cell x) in
        cc
    go (inr stays) = stays r s

-- ---- bounds

told_lower : (t : ColumnType) (x v : Value) (r s : List ℕ) → IsOfType t x → IsOfType t v → is_from (key_cell v ++ s) (key_cell x ++ r) ≡ true → allows_in kind.Lower (compare_values x v) ≡ true
told_lower t x v r s of_x of_v from = ap (allows_in kind.Lower) both.values ∙ go both.order both.cells
  where
    both : CellsCompare x v
    both = compare_cells t x v of_x of_v

    go : (o : Ordering) → key_cmp (key_cell x) (key_cell v) ≡ o → allows_in kind.Lower (Some o) ≡ true
    go Less is = let less : key_cmp (key_cell x ++ r) (key_cell v ++ s) ≡ Less = cell_below t x v of_x of_v is r s in cc
    go Equal is = refl
    go Greater is = refl

told_upper : (t : ColumnType) (x v : Value) (r s : List ℕ) → IsOfType t x → IsOfType t v → is_within (key_cell v ++ s) (key_cell x ++ r) ≡ true → allows_in kind.Upper (compare_values x v) ≡ true
told_upper t x v r s of_x of_v within = ap (allows_in kind.Upper) both.values ∙ go both.order both.cells
  where
    both : CellsCompare x v
    both = compare_cells t x v of_x of_v

    beyond : key_cmp (key_cell x) (key_cell v) ≡ Greater → (b : Bool) → b ≡ has_prefix (key_cell v ++ s) (key_cell x ++ r) → (b || is_lt (key_cmp (key_cell x ++ r) (key_cell v ++ s))) ≡ true → ⊥
    beyond is true front h =
        let found = front_of (key_cell v ++ s) (key_cell x ++ r) (sym front) in
        let same : x ≡ v = same_cell t x v r (s ++ found.0) of_x of_v (found.1 ∙ append_assoc (key_cell v) s found.0) in
        let equal : key_cmp (key_cell x) (key_cell v) ≡ Equal = ap (λ w. key_cmp (key_cell w) (key_cell v)) same ∙ itself (key_cell v) in
        cc
    beyond is false front h =
        let less : key_cmp (key_cell v ++ s) (key_cell x ++ r) ≡ Less = cell_below t v x of_v of_x (turned (key_cell x) (key_cell v) is) s r in
        let greater : key_cmp (key_cell x ++ r) (key_cell v ++ s) ≡ Greater = after (key_cell v ++ s) (key_cell x ++ r) less in
        cc

    go : (o : Ordering) → key_cmp (key_cell x) (key_cell v) ≡ o → allows_in kind.Upper (Some o) ≡ true
    go Less is = refl
    go Equal is = refl
    go Greater is = absurd (beyond is (has_prefix (key_cell v ++ s) (key_cell x ++ r)) refl within)

-- ---- a column of a row whose key goes on between two bounds

module _ (layout : Layout) (index : ℕ) (others : List ℕ) (column : Column) (is : slice_get layout.columns index ≡ Some column) (marked : is_not_null_at layout.columns index ≡ true)
    (front start stop : List ℕ) (row : Row) (goes : GoesOnBetween layout front start stop (index ∷ others) row) where
  abbrev value : Value
  value = value_at row index

  abbrev rest_of : List ℕ
  rest_of = key_bytes (map (value_at row) others)

  of_type : IsOfType column.column_type value
  of_type = of_column (slice_get layout.columns index) column value is marked (goes.fits.each index)

  parts : (is_from (front ++ start) (front ++ (key_cell value ++ rest_of)) ≡ true) × (is_within (front ++ stop) (front ++ (key_cell value ++ rest_of)) ≡ true)
  parts = and_parts (is_from (front ++ start) (front ++ (key_cell value ++ rest_of))) (is_within (front ++ stop) (front ++ (key_cell value ++ rest_of))) goes.between

  pub at_least : (k : KnownColumn) → BeginsWithCell index column.column_type start k → allows_in kind.Lower (compare_values (value_at row k.index) (owned k.value)) ≡ true
  at_least k begins =
      ap (λ n. allows_in kind.Lower (compare_values (value_at row n) (owned k.value))) begins.at
      ∙ told_lower column.column_type value (owned k.value) rest_of begins.rest of_type begins.of_type
      (subst (λ (b : List ℕ). is_from b (key_cell value ++ rest_of) ≡ true) begins.begins (sym (from_behind front start (key_cell value ++ rest_of)) ∙ parts.0))

  pub at_most : (k : KnownColumn) → BeginsWithCell index column.column_type stop k → allows_in kind.Upper (compare_values (value_at row k.index) (owned k.value)) ≡ true
  at_most k begins =
      ap (λ n. allows_in kind.Upper (compare_values (value_at row n) (owned k.value))) begins.at
      ∙ told_upper column.column_type value (owned k.value) rest_of begins.rest of_type begins.of_type
      (subst (λ (b : List ℕ). is_within b (key_cell value ++ rest_of) ≡ true) begins.begins (sym (within_behind front stop (key_cell value ++ rest_of)) ∙ parts.1))
