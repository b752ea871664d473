-- Rows in a span compare by the columns behind those that are the same in each of them.
use Rattle.std.proofs.Common.{◌≡◌, ℕ, zero, suc, Bool, true, false, ◌&&◌, ◌||◌, nat_eq, if◌then◌else◌, List, [], ◌∷◌, ◌++◌, map, length, take, drop, get_or, arith, Option, Some, None, Bor, refl, sym, ap, subst, ◌∙◌, append_assoc, inl, inr}
use Rattle.std.specs.List.{list_all, AllByRecursion}
use Rattle.std.specs.declared.cmp.Ordering.{Ordering}
use Rattle.std.specs.declared.cmp.Ordering.TheVariants.{Less, Equal, Greater}
use Rattle.std.specs.Ordering.{int_cmp, is_gt, is_lt, ordering_then}
use Rattle.std.proofs.Math.Seq.{take-append_seam, drop-append_seam}
use Rattle.sql_types.specs.Domain.{HasNoZero}
use Rattle.sql_types.specs.declared.value.Value.{Value}
use Rattle.sql_types.specs.declared.value.Value.TheVariants.{Null, Int, Text, Bool as Boolean}
use Rattle.sql_types.specs.Row.{Row, value_at}
use Rattle.sql_types.specs.declared.value.ValueRef.{ValueRef}
use Rattle.sql_types.specs.Value.{order_of, compare_values, owned}
use Rattle.expressions.proofs.OrderLaws.{compared_equal}
use Rattle.sql_ast.specs.declared.columns.Column.{Column}
use Rattle.sql_ast.specs.declared.columns.ColumnType.{ColumnType}
use Rattle.sql_ast.specs.declared.columns.ColumnType.TheVariants as type
use Rattle.sql_ast.specs.Fits.{IsOfType, FitsColumnIfAny, FitsColumns}
use Rattle.sql_ast.specs.Layout.{Layout, IsLayout, is_not_null, is_not_null_at}
use Rattle.sql_ast.specs.Rows.{row_cmp}
use Rattle.std.specs.Prelude.{slice_get}
use Rattle.store.specs.Records.{Record, Records, IsOrdered, entries_where, key_cmp, is_from, has_prefix}
use Rattle.store.specs.Walks.{is_within}
use Rattle.store.proofs.Changes.{itself}
use Rattle.store.proofs.HeldItems.{own_prefix}
use Rattle.store.proofs.Scans.{past_prefix}
use Rattle.row_codec.specs.Cells.{key_cell, IsFront}
use Rattle.row_codec.specs.Rows.{key_bytes, row_prefix, row_key, row_value}
use Rattle.row_codec.proofs.Layouts.{and_parts, fits_of_type, of_type_fits}
use Rattle.row_codec.proofs.Order.{keys_order}
use Rattle.row_codec.proofs.Zero.{same_parts, zero_after}
use Rattle.abstract_database.specs.Lists.{Among}
use Rattle.abstract_database.specs.Whole.{Each}
use Rattle.key_ranges.specs.declared.range.KeyRange.{KeyRange}
use Rattle.key_ranges.specs.declared.range.KeyRange.TheVariants.{Span, Several}
use Rattle.key_ranges.specs.Spans.{Spans, AreOrderedSpans}
use Rattle.key_ranges.specs.Ranges.{is_in}
use Rattle.key_ranges.proofs.Conditions.{same_number}
use Rattle.key_ranges.proofs.Records.{found_range}
use Rattle.gathering.proofs.KeyOrder.{rising_never_falls}
use Rattle.gathering.specs.KeyOrder.{NeverFalls, Pairwise}
use Rattle.table_rows.specs.declared.target.Target.{Target}
use Rattle.table_rows.specs.Ranged.{records_found, FindsRows}
use Rattle.table_rows.proofs.KeyOrder.{found_rise}
use Rattle.executor.specs.declared.found_order.SharedCell.{SharedCell}
use Rattle.executor.specs.FoundOrder.{BeginAlike, ComparesAs, GoesOnBetween, HaveOnePrefix, IsInsideIfAny, IsOrderOf, MayBeFound, IsInside}

-- ---- keys with one front

pub front_of : (p k : List ℕ) → has_prefix p k ≡ true → (rest : List ℕ) × (k ≡ p ++ rest)
front_of [] k h = (k, refl)
front_of (x ∷ p) [] h = cc
front_of (x ∷ p) (y ∷ k) h =
    let parts = and_parts (nat_eq x y) (has_prefix p k) h in
    let later = front_of p k parts.1 in
    (later.0, ap (λ n. n ∷ k) (sym (same_number x y parts.0)) ∙ ap (λ (zs : List ℕ). x ∷ zs) later.1)

prefix_onward : (p q k : List ℕ) → has_prefix p q ≡ true → has_prefix q k ≡ true → has_prefix p k ≡ true
prefix_onward [] q k h l = refl
prefix_onward (x ∷ p) [] k h l = cc
prefix_onward (x ∷ p) (y ∷ q) [] h l = cc
prefix_onward (x ∷ p) (y ∷ q) (z ∷ k) h l =
    let a = and_parts (nat_eq x y) (has_prefix p q) h in
    let b = and_parts (nat_eq y z) (has_prefix q k) l in
    let same : nat_eq x z ≡ true = subst (λ n. nat_eq x n ≡ true) (same_number y z b.0) a.0 in
    ap (λ t. t && has_prefix p k) same ∙ prefix_onward p q k a.1 b.1

less_test : (o : Ordering) → is_lt o ≡ true → o ≡ Less
less_test Less h = refl
less_test Equal h = cc
less_test Greater h = cc

-- a key in a span begins as both of its bounds do
begins_alike : (p start stop k : List ℕ) → has_prefix p start ≡ true → has_prefix p stop ≡ true → is_in (Span start stop) k ≡ true → has_prefix p k ≡ true
begins_alike p start stop k of_start of_stop h = go (has_prefix stop k) refl parts.1 (has_prefix p k) refl
  where
    parts : (is_from start k ≡ true) × (is_within stop k ≡ true)
    parts = and_parts (is_from start k) (is_within stop k) h

    go : (b : Bool) → b ≡ has_prefix stop k → (b || is_lt (key_cmp k stop)) ≡ true → (c : Bool) → c ≡ has_prefix p k → has_prefix p k ≡ true
    go true e w c f = prefix_onward p stop k of_stop (sym e)
    go false e w true f = sym f
    go false e w false f =
        let past : has_prefix p stop ≡ false = past_prefix p start k of_start parts.0 (sym f) stop (less_test (key_cmp k stop) w) in
        cc

-- what follows the front of a key in such a span
follows : (p s t k : List ℕ) → is_in (Span (p ++ s) (p ++ t)) k ≡ true → (rest : List ℕ) × (k ≡ p ++ rest)
follows p s t k h = front_of p k (begins_alike p (p ++ s) (p ++ t) k (own_prefix p s) (own_prefix p t) h)

cut_front : (p a b : List ℕ) → p ++ a ≡ p ++ b → a ≡ b
cut_front p a b same = sym (drop-append_seam p a) ∙ ap (λ (zs : List ℕ). drop (length p) zs) same ∙ drop-append_seam p b

-- ---- cells

same_text : (s t xs ys : List ℕ) → HasNoZero s → HasNoZero t → s ++ 0 ∷ xs ≡ t ++ 0 ∷ ys → s ≡ t
same_text s t xs ys free_s free_t same =
    let at = zero_after s xs free_s in
    let first = same_parts (s ++ 0 ∷ xs) s xs (length s) at free_s refl in
    let second = same_parts (s ++ 0 ∷ xs) t ys (length s) at free_t same in
    sym first.0 ∙ second.0

-- a column of this type
abbrev pub of_kind : ColumnType → Column
of_kind kind = record { name = []; column_type = kind; not_null = true }

pub fits_alone : (kind : ColumnType) (v : Value) → IsOfType kind v → FitsColumns (of_kind kind ∷ []) (v ∷ [])
fits_alone kind v of = record { width = refl; each = go }
  where
    go : (index : ℕ) → FitsColumnIfAny (slice_get (of_kind kind ∷ []) index) (value_at (v ∷ []) index)
    go zero = fits_of_type (of_kind kind) v of
    go (suc index) = tt

then_equal : (o : Ordering) → ordering_then o Equal ≡ Equal → o ≡ Equal
then_equal Less h = cc
then_equal Equal h = refl
then_equal Greater h = cc

-- values of one type with the same cell are not told apart
same_order : (kind : ColumnType) (v w : Value) → IsOfType kind v → IsOfType kind w → key_cell v ≡ key_cell w → order_of v w ≡ Equal
same_order kind v w of_v of_w same =
    then_equal (order_of v w)
    (sym (keys_order (of_kind kind ∷ []) (0 ∷ []) (v ∷ []) (w ∷ []) refl (fits_alone kind v of_v) (fits_alone kind w of_w))
    ∙ ap (λ (c : List ℕ). key_cmp (c ++ []) (key_cell w ++ [])) same
    ∙ itself (key_cell w ++ []))

-- two values of one type are the same where the cells of both stand at the front of the same bytes
pub same_cell : (t : ColumnType) (v w : Value) (r s : List ℕ) → IsOfType t v → IsOfType t w → key_cell v ++ r ≡ key_cell w ++ s → v ≡ w
same_cell type.BigInt (Int a) (Int b) r s p q same =
    let order : int_cmp a b ≡ Equal = same_order type.BigInt (Int a) (Int b) p q (ap (λ (zs : List ℕ). take 8 zs) same) in
    compared_equal (Int a) (Int b) (ap (λ o. Some o) order)
same_cell type.Text (Text t) (Text u) r s p q same =
    ap Text (same_text t u r s p.no_zero q.no_zero (sym (append_assoc t (0 ∷ []) r) ∙ same ∙ append_assoc u (0 ∷ []) s))
same_cell type.Boolean (Boolean false) (Boolean false) r s p q same = refl
same_cell type.Boolean (Boolean true) (Boolean true) r s p q same = refl
same_cell type.Boolean (Boolean false) (Boolean true) r s p q same = absurd (omega (arith, ap (λ (zs : List ℕ). get_or zs 0 0) same))
same_cell type.Boolean (Boolean true) (Boolean false) r s p q same = absurd (omega (arith, ap (λ (zs : List ℕ). get_or zs 0 0) same))
same_cell type.BigInt Null w r s p q same = absurd p
same_cell type.BigInt (Int a) Null r s p q same = absurd q
same_cell type.BigInt (Int a) (Text t) r s p q same = absurd q
same_cell type.BigInt (Int a) (Boolean b) r s p q same = absurd q
same_cell type.BigInt (Text t) w r s p q same = absurd p
same_cell type.BigInt (Boolean b) w r s p q same = absurd p
same_cell type.Text Null w r s p q same = absurd p
same_cell type.Text (Int a) w r s p q same = absurd p
same_cell type.Text (Text t) Null r s p q same = absurd q
same_cell type.Text (Text t) (Int b) r s p q same = absurd q
same_cell type.Text (Text t) (Boolean b) r s p q same = absurd q
same_cell type.Text (Boolean b) w r s p q same = absurd p
same_cell type.Boolean Null w r s p q same = absurd p
same_cell type.Boolean (Int a) w r s p q same = absurd p
same_cell type.Boolean (Text t) w r s p q same = absurd p
same_cell type.Boolean (Boolean false) Null r s p q same = absurd q
same_cell type.Boolean (Boolean false) (Int b) r s p q same = absurd q
same_cell type.Boolean (Boolean false) (Text t) r s p q same = absurd q
same_cell type.Boolean (Boolean true) Null r s p q same = absurd q
same_cell type.Boolean (Boolean true) (Int b) r s p q same = absurd q
same_cell type.Boolean (Boolean true) (Text t) r s p q same = absurd q

-- ---- one column

pub of_column : (o : Option Column) (c : Column) (v : Value) → o ≡ Some c → is_not_null o ≡ true → FitsColumnIfAny o v → IsOfType c.column_type v
of_column o c v is marked fits =
    of_type_fits c v (subst (λ (x : Option Column). is_not_null x ≡ true) is marked) (subst (λ (x : Option Column). FitsColumnIfAny x v) is fits)

equal_behind : (o p : Ordering) → ordering_then o Equal ≡ Equal → ordering_then o p ≡ p
equal_behind Less p h = cc
equal_behind Equal p h = refl
equal_behind Greater p h = cc

module _ (layout : Layout) (index : ℕ) (others : List ℕ) (column : Column) (is : slice_get layout.columns index ≡ Some column) where
  abbrev rest_of : Row → List ℕ
  rest_of row = key_bytes (map (value_at row) others)

  module _ (start stop : List ℕ) (cell : SharedCell) (alike : BeginAlike column.column_type start stop cell) (front : List ℕ) (marked : is_not_null_at layout.columns index ≡ true) where
    abbrev s : List ℕ
    s = cell.start.now

    abbrev t : List ℕ
    t = cell.stop.now

    abbrev value : Value
    value = owned cell.value

    abbrev onward : List ℕ
    onward = front ++ key_cell value

    start_is : front ++ start ≡ onward ++ s
    start_is = ap (λ (zs : List ℕ). front ++ zs) alike.in_start ∙ sym (append_assoc front (key_cell value) s)

    stop_is : front ++ stop ≡ onward ++ t
    stop_is = ap (λ (zs : List ℕ). front ++ zs) alike.in_stop ∙ sym (append_assoc front (key_cell value) t)

    -- the row has the value with which both bounds go on
    pub value_is : (row : Row) → GoesOnBetween layout front start stop (index ∷ others) row → value_at row index ≡ value
    value_is row goes =
        let key : List ℕ = front ++ (key_cell (value_at row index) ++ rest_of row) in
        let in_span : is_in (Span (onward ++ s) (onward ++ t)) key ≡ true =
        subst (λ (a : List ℕ). is_in (Span a (onward ++ t)) key ≡ true) start_is (subst (λ (b : List ℕ). is_in (Span (front ++ start) b) key ≡ true) stop_is goes.between) in
        let found = follows onward s t key in_span in
        same_cell column.column_type (value_at row index) value (rest_of row) found.0 (of_column (slice_get layout.columns index) column (value_at row index) is marked (goes.fits.each index)) alike.of_type
        (cut_front front (key_cell (value_at row index) ++ rest_of row) (key_cell value ++ found.0) (found.1 ∙ append_assoc front (key_cell value) found.0))

    pub goes_onward : (row : Row) → GoesOnBetween layout front start stop (index ∷ others) row → GoesOnBetween layout onward s t others row
    goes_onward row goes =
        let key_is : front ++ (key_cell (value_at row index) ++ rest_of row) ≡ onward ++ rest_of row =
        ap (λ v. front ++ (key_cell v ++ rest_of row)) (value_is row goes) ∙ sym (append_assoc front (key_cell value) (rest_of row)) in
        record {
          fits = goes.fits;
          between = subst (λ (k : List ℕ). is_in (Span (onward ++ s) (onward ++ t)) k ≡ true) key_is
              (subst (λ (a : List ℕ). is_in (Span a (onward ++ t)) (front ++ (key_cell (value_at row index) ++ rest_of row)) ≡ true) start_is
              (subst (λ (b : List ℕ). is_in (Span (front ++ start) b) (front ++ (key_cell (value_at row index) ++ rest_of row)) ≡ true) stop_is goes.between));
        }

    same_value : (a b : Row) → GoesOnBetween layout front start stop (index ∷ others) a → GoesOnBetween layout front start stop (index ∷ others) b
        → ordering_then (order_of (value_at a index) (value_at b index)) Equal ≡ Equal
    same_value a b of_a of_b =
        sym (keys_order layout.columns (index ∷ []) a b (ap (λ t. t && true) marked) of_a.fits of_b.fits)
        ∙ ap (λ v. key_cmp (key_cell v ++ []) (key_cell (value_at b index) ++ [])) (value_is a of_a ∙ sym (value_is b of_b))
        ∙ itself (key_cell (value_at b index) ++ [])

  -- the others alone tell rows apart
  pub compares_behind : (start stop found : List ℕ) (cell : SharedCell) → BeginAlike column.column_type start stop cell → ComparesAs layout cell.start.now cell.stop.now others found → ComparesAs layout start stop (index ∷ others) found
  compares_behind start stop found cell alike later front a b marked of_a of_b =
      let parts = and_parts (is_not_null_at layout.columns index) (list_all (is_not_null_at layout.columns) others) marked in
      equal_behind (order_of (value_at a index) (value_at b index)) (row_cmp others a b) (same_value start stop cell alike front parts.0 a b of_a of_b)
      ∙ later (front ++ key_cell (owned cell.value)) a b parts.1 (goes_onward start stop cell alike front parts.0 a of_a) (goes_onward start stop cell alike front parts.0 b of_b)

-- ---- the rows of a target

-- two lists of five bytes at the front of the same bytes are the same
same_prefix : (p q r s : List ℕ) → length p ≡ 5 → length q ≡ 5 → p ++ r ≡ q ++ s → p ≡ q
same_prefix p q r s long_p long_q same =
    sym (take-append_seam p r) ∙ ap (λ n. take n (p ++ r)) (long_p ∙ sym long_q) ∙ ap (λ (zs : List ℕ). take (length q) zs) same ∙ take-append_seam q s

-- the key of a row in a span goes on behind the prefix of the table
pub goes_behind_prefix : (id : ℕ) (layout : Layout) (start stop s t : List ℕ) → HaveOnePrefix start stop s t → (row : Row) → FitsColumns layout.columns row
    → is_in (Span start stop) (row_prefix id ++ row_key layout row) ≡ true → GoesOnBetween layout (row_prefix id) s t layout.key row
goes_behind_prefix id layout start stop s t one row fits inside =
    let key : List ℕ = row_prefix id ++ row_key layout row in
    let in_span : is_in (Span (one.prefix ++ s) (one.prefix ++ t)) key ≡ true =
    subst (λ (a : List ℕ). is_in (Span a (one.prefix ++ t)) key ≡ true) one.in_start (subst (λ (b : List ℕ). is_in (Span start b) key ≡ true) one.in_stop inside) in
    let found = follows one.prefix s t key in_span in
    let same : one.prefix ≡ row_prefix id = same_prefix one.prefix (row_prefix id) found.0 (row_key layout row) one.long refl (sym found.1) in
    record { fits = fits; between = subst (λ (p : List ℕ). is_in (Span (p ++ s) (p ++ t)) key ≡ true) same in_span }

-- so does that of each row that a target with this range may find
pub goes_in_span : (table : Target) (range : Bor KeyRange) (start stop s t : List ℕ) → table.range ≡ Some range → range.now ≡ Span start stop → HaveOnePrefix start stop s t
    → (row : Row) → MayBeFound table row → GoesOnBetween table.columns.now (row_prefix table.id) s t table.columns.now.key row
goes_in_span table range start stop s t ranged is one row may =
    goes_behind_prefix table.id table.columns.now start stop s t one row may.fits.columns
    (subst (λ (r : KeyRange). is_in r (row_prefix table.id ++ row_key table.columns.now row) ≡ true) is
    (subst (λ (r : Option (Bor KeyRange)). IsInsideIfAny table.id table.columns.now r row) ranged may.inside))

-- the keys of these rows are in the span, or in the one around several
pub inside_span : (table : Target) (range : Bor KeyRange) (start stop : List ℕ) → table.range ≡ Some range → range.now ≡ Span start stop → IsInside table start stop
inside_span table range start stop ranged is row may =
    subst (λ (r : KeyRange). is_in r (row_prefix table.id ++ row_key table.columns.now row) ≡ true) is
    (subst (λ (r : Option (Bor KeyRange)). IsInsideIfAny table.id table.columns.now r row) ranged may.inside)

pub inside_spans : (table : Target) (range : Bor KeyRange) (spans : Spans) (start stop : List ℕ) → table.range ≡ Some range → range.now ≡ Several spans → AreOrderedSpans spans → start ≡ spans.start → stop ≡ spans.stop → IsInside table start stop
inside_spans table range spans start stop ranged is inside start_is stop_is row may =
    let key : List ℕ = row_prefix table.id ++ row_key table.columns.now row in
    let there : is_in (Several spans) key ≡ true =
    subst (λ (r : KeyRange). is_in r key ≡ true) is (subst (λ (r : Option (Bor KeyRange)). IsInsideIfAny table.id table.columns.now r row) ranged may.inside) in
    subst (λ (a : List ℕ). is_in (Span a stop) key ≡ true) (sym start_is) (subst (λ (b : List ℕ). is_in (Span spans.start b) key ≡ true) (sym stop_is) (inside.around key there))

pub order_in_span : (table : Target) (start stop s t found : List ℕ) → IsInside table start stop → IsLayout table.columns.now → HaveOnePrefix start stop s t
    → ComparesAs table.columns.now s t table.columns.now.key found → IsOrderOf table found
order_in_span table start stop s t found inside layout one compares a b of_a of_b =
    let goes = λ (row : Row) (may : MayBeFound table row). goes_behind_prefix table.id table.columns.now start stop s t one row may.fits.columns (inside row may) in
    compares (row_prefix table.id) a b layout.key_not_null (goes a of_a) (goes b of_b)

-- the key is an order of the rows
pub order_by_key : (table : Target) (key : List ℕ) → key ≡ table.columns.now.key → IsOrderOf table key
order_by_key table key is a b of_a of_b = ap (λ (columns : List ℕ). row_cmp columns a b) (sym is)

-- ---- rows that never fall by the key

pairs_with : {X : Type 0} (R S : X → X → Type 0) (P : X → Type 0) (xs : List X) → Each P xs → ((x y : X) → P x → P y → R x y → S x y) → Pairwise R xs → Pairwise S xs
pairs_with R S P [] each change pairs = tt
pairs_with R S P (x ∷ xs) each change pairs = ((λ y among. change x y (each x (inl refl)) (each y (inr among)) (pairs.0 y among)), pairs_with R S P xs (λ y among. each y (inr among)) change pairs.1)

-- never fall by such an order
pub never_fall_by : (table : Target) (columns : List ℕ) (rows : List Row) → IsOrderOf table columns → Each (MayBeFound table) rows → NeverFalls (row_cmp table.columns.now.key) rows → NeverFalls (row_cmp columns) rows
never_fall_by table columns rows order each never =
    pairs_with _ _ (MayBeFound table) rows each (λ a b of_a of_b e. ap is_gt (sym (order a b of_a of_b)) ∙ e) never

-- ---- the rows that are found

each_spelled : {X : Type 0} (q : List ℕ → Bool) (spell : X → Record) (xs : List X) → AllByRecursion (λ (e : Record). q e.0 ≡ true) (map spell xs) → (x : X) → Among x xs → q (spell x).0 ≡ true
each_spelled q spell [] all x among = absurd among
each_spelled q spell (y ∷ xs) all x (inl is) = subst (λ z. q (spell z).0 ≡ true) is all.0
each_spelled q spell (y ∷ xs) all x (inr later) = each_spelled q spell xs all.1 x later

passes_test : (q : List ℕ → Bool) (es : Records) → AllByRecursion (λ (e : Record). q e.0 ≡ true) (entries_where q es)
passes_test q [] = tt
passes_test q (e ∷ es) = go (q e.0) refl (passes_test q es)
  where
    go : (b : Bool) → q e.0 ≡ b → AllByRecursion (λ (e : Record). q e.0 ≡ true) (entries_where q es) → AllByRecursion (λ (e : Record). q e.0 ≡ true) (if b then e ∷ entries_where q es else entries_where q es)
    go true is rest = (is, rest)
    go false is rest = rest

-- are such as may be found
pub found_may_be : (table : Target) (records : Records) (rows : List Row) → IsOrdered records → FindsRows table records rows → Each (MayBeFound table) rows
found_may_be table records rows ordered found row among = record { fits = found.fit row among; inside = go table.range found.are }
  where
    spell : Row → Record
    spell r = (row_prefix table.id ++ row_key table.columns.now r, row_value table.columns.now r)

    go : (range : Option (Bor KeyRange)) → records_found table.id range records ≡ map spell rows → IsInsideIfAny table.id table.columns.now range row
    go None are = tt
    go (Some range) are =
        each_spelled (is_in range.now) spell rows
        (subst (AllByRecursion (λ (e : Record). is_in range.now e.0 ≡ true)) (sym (found_range range.now records ordered) ∙ are) (passes_test (is_in range.now) records))
        row among

-- and never fall by their order
pub found_never_fall : (table : Target) (records : Records) (rows : List Row) (columns : List ℕ) → IsLayout table.columns.now → IsOrdered records → IsOrderOf table columns → FindsRows table records rows → NeverFalls (row_cmp columns) rows
found_never_fall table records rows columns layout ordered order found =
    never_fall_by table columns rows order (found_may_be table records rows ordered found)
    (rising_never_falls (row_cmp table.columns.now.key) rows (found_rise table records rows layout ordered found))

-- ---- bounds that begin alike

pub begin_alike : (kind : ColumnType) (start stop : List ℕ) (cell : SharedCell) (w : ValueRef) → IsFront (IsOfType kind) key_cell start cell.value cell.start.now → IsFront (IsOfType kind) key_cell stop w cell.stop.now
    → compare_values (owned cell.value) (owned w) ≡ Some Equal → BeginAlike kind start stop cell
begin_alike kind start stop cell w first second same = record {
  of_type = first.0;
  in_start = first.1;
  in_stop = second.1 ∙ ap (λ x. key_cell x ++ cell.stop.now) (sym (compared_equal (owned cell.value) (owned w) same));
}
