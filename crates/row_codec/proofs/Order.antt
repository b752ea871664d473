-- The bytes of keys compare as the values of the key's columns do.
use Rattle.std.proofs.Common.{◌≡◌, ◌≢◌, ℕ, ◌+◌, ◌*◌, ◌^◌, ◌<◌, ◌≤◌, true, false, Some, None, List, [], ◌∷◌, ◌++◌, map, length, refl, ap, sym, ◌∙◌, arith, append_assoc, slice_get}
use Rattle.std.specs.Prelude.{Option, ℤ, pos, negsuc, ◌<ℤ◌, FitsSigned}
use Rattle.std.specs.List.{AllByRecursion, list_all}
use Rattle.std.specs.Int.{w64}
use Rattle.std.specs.declared.cmp.Ordering.{Ordering}
use Rattle.std.specs.declared.cmp.Ordering.TheVariants.{Less, Equal, Greater}
use Rattle.std.specs.Ordering.{nat_cmp, int_cmp, ordering_then, MatchOrdering}
use Rattle.std.specs.Cmp.{nat_cmp_is, int_ranks}
use Rattle.std.specs.Cmp.Lexicographic.{slice_cmp}
use Rattle.std.proofs.lemmas.Cmp.{ranked}
use Rattle.std.proofs.lemmas.Int.{ints}
use Rattle.std.proofs.Math.Nat.{mul-le-mul_left, pow-suc}
use Rattle.byteorder.specs.Endian.{big_bytes}
use Rattle.sql_types.specs.declared.value.Value.{Value}
use Rattle.sql_types.specs.declared.value.Value.TheVariants.{Null, Int, Text, Bool as Boolean}
use Rattle.sql_types.specs.Value.{order_of}
use Rattle.sql_ast.specs.declared.columns.Column.{Column}
use Rattle.sql_ast.specs.declared.columns.ColumnType.{ColumnType}
use Rattle.sql_ast.specs.declared.columns.ColumnType.TheVariants as type
use Rattle.sql_ast.specs.Layout.{is_not_null, is_not_null_at}
use Rattle.sql_types.specs.Domain.{HasNoZero}
use Rattle.sql_ast.specs.Fits.{IsOfType, FitsColumnIfAny, FitsColumns}
use Rattle.row_codec.specs.Cells.{key_cell, rank}
use Rattle.sql_types.specs.Row.{Row, value_at}
use Rattle.row_codec.specs.Rows.{key_bytes, KeyOrderIsByteOrder}
use Rattle.row_codec.proofs.Layouts.{and_parts, of_type_fits}

-- ---- orderings

is_less : (a b : ℕ) → a < b → nat_cmp a b ≡ Less
is_less a b h = sym (nat_cmp_is a b Less h)

is_greater : (a b : ℕ) → b < a → nat_cmp a b ≡ Greater
is_greater a b h = sym (nat_cmp_is a b Greater h)

is_equal : (a b : ℕ) → a ≡ b → nat_cmp a b ≡ Equal
is_equal a b h = sym (nat_cmp_is a b Equal h)

then_assoc : (a b c : Ordering) → ordering_then (ordering_then a b) c ≡ ordering_then a (ordering_then b c)
then_assoc Less b c = refl
then_assoc Equal b c = refl
then_assoc Greater b c = refl

-- ---- texts

-- a text's zero byte is less than each byte of another text
texts_order : (s t xs ys : List ℕ) → HasNoZero s → HasNoZero t → slice_cmp nat_cmp (s ++ 0 ∷ xs) (t ++ 0 ∷ ys) ≡ ordering_then (slice_cmp nat_cmp s t) (slice_cmp nat_cmp xs ys)
texts_order [] [] xs ys free_s free_t = refl
texts_order [] (b ∷ t) xs ys free_s free_t = rw (is_less 0 b (let some : b ≢ 0 = free_t.0 in omega (arith, some))) refl
texts_order (a ∷ s) [] xs ys free_s free_t = rw (is_greater a 0 (let some : a ≢ 0 = free_s.0 in omega (arith, some))) refl
texts_order (a ∷ s) (b ∷ t) xs ys free_s free_t =
    rw (texts_order s t xs ys free_s.1 free_t.1) (sym (then_assoc (nat_cmp a b) (slice_cmp nat_cmp s t) (slice_cmp nat_cmp xs ys)))

-- ---- numbers

shifted : (c r v : ℕ) → nat_cmp (c + r) (c + v) ≡ nat_cmp r v
shifted c r v = go (nat_cmp r v) (ranked r v _ refl)
  where
    go : (o : Ordering) → MatchOrdering o (r < v) (r ≡ v) (v < r) → nat_cmp (c + r) (c + v) ≡ o
    go Less h = is_less (c + r) (c + v) (omega arith)
    go Equal h = is_equal (c + r) (c + v) (omega arith)
    go Greater h = is_greater (c + r) (c + v) (omega arith)

-- numbers of two digits compare by the high ones, then by the low ones
digits_order : (m q r u v : ℕ) → r < m → v < m → nat_cmp (q * m + r) (u * m + v) ≡ ordering_then (nat_cmp q u) (nat_cmp r v)
digits_order m q r u v low_r low_v = go (nat_cmp q u) (ranked q u _ refl)
  where
    go : (o : Ordering) → MatchOrdering o (q < u) (q ≡ u) (u < q) → nat_cmp (q * m + r) (u * m + v) ≡ ordering_then o (nat_cmp r v)
    go Less h = let step : q + 1 ≤ u = omega arith in is_less (q * m + r) (u * m + v) (omega (arith, mul-le-mul_left m step))
    go Equal h = rw h (shifted (u * m) r v)
    go Greater h = let step : u + 1 ≤ q = omega arith in is_greater (q * m + r) (u * m + v) (omega (arith, mul-le-mul_left m step))

-- the number that bytes spell, the highest first
abbrev spelled : List ℕ → ℕ
spelled [] = 0
spelled (x ∷ xs) = x * 256 ^ length xs + spelled xs

abbrev AreBytes : List ℕ → Type 0
AreBytes xs = AllByRecursion (λ b. b < 256) xs

spelled_below : (xs : List ℕ) → AreBytes xs → spelled xs < 256 ^ length xs
spelled_below [] bytes = omega arith
spelled_below (x ∷ xs) bytes =
    let first : x + 1 ≤ 256 = let low : x < 256 = bytes.0 in omega arith in
    let rest : spelled xs < 256 ^ length xs = spelled_below xs bytes.1 in
    let top : 256 ^ length xs * (x + 1) ≤ 256 ^ length xs * 256 = mul-le-mul_left (256 ^ length xs) first in
    rw pow-suc (omega arith)

-- bytes of one length compare as the numbers that they spell
bytes_order : (xs ys us vs : List ℕ) → length xs ≡ length ys → AreBytes xs → AreBytes ys
    → slice_cmp nat_cmp (xs ++ us) (ys ++ vs) ≡ ordering_then (nat_cmp (spelled xs) (spelled ys)) (slice_cmp nat_cmp us vs)
bytes_order [] [] us vs long bytes_x bytes_y = refl
bytes_order [] (y ∷ ys) us vs long bytes_x bytes_y = absurd (omega arith)
bytes_order (x ∷ xs) [] us vs long bytes_x bytes_y = absurd (omega arith)
bytes_order (x ∷ xs) (y ∷ ys) us vs long bytes_x bytes_y =
    let same : length xs ≡ length ys = omega arith in
    rw (bytes_order xs ys us vs same bytes_x.1 bytes_y.1)
    (sym (then_assoc (nat_cmp x y) (nat_cmp (spelled xs) (spelled ys)) (slice_cmp nat_cmp us vs))
    ∙ ap (λ o. ordering_then o (slice_cmp nat_cmp us vs))
    (sym (rw same (digits_order (256 ^ length ys) x (spelled xs) y (spelled ys) (rw (← same) (spelled_below xs bytes_x.1)) (spelled_below ys bytes_y.1)))))

spelled_number : (n : ℕ) → n < 2 ^ 64 → spelled (big_bytes 8 n) ≡ n
spelled_number n small = omega arith

number_bytes : (n : ℕ) → AreBytes (big_bytes 8 n)
number_bytes n = (omega arith, (omega arith, (omega arith, (omega arith, (omega arith, (omega arith, (omega arith, (omega arith, tt))))))))

same_cmp : (x a y b : ℕ) → x ≡ a → y ≡ b → nat_cmp x y ≡ nat_cmp a b
same_cmp x a y b e f = rw (e, f) refl

numbers_order : (a b : ℕ) (us vs : List ℕ) → a < 2 ^ 64 → b < 2 ^ 64
    → slice_cmp nat_cmp (big_bytes 8 a ++ us) (big_bytes 8 b ++ vs) ≡ ordering_then (nat_cmp a b) (slice_cmp nat_cmp us vs)
numbers_order a b us vs small_a small_b =
    bytes_order (big_bytes 8 a) (big_bytes 8 b) us vs refl (number_bytes a) (number_bytes b)
    ∙ ap (λ o. ordering_then o (slice_cmp nat_cmp us vs)) (same_cmp _ a _ b (spelled_number a small_a) (spelled_number b small_b))

pub rank_fits : (z : ℤ) → FitsSigned w64 z → rank z < 2 ^ 64
rank_fits (pos m) fits = omega arith
rank_fits (negsuc m) fits = omega arith

rank_rises : (x y : ℤ) → FitsSigned w64 x → FitsSigned w64 y → x <ℤ y → rank x < rank y
rank_rises (pos m) (pos n) fits_x fits_y h = omega (arith, ints)
rank_rises (pos m) (negsuc n) fits_x fits_y h = absurd (omega (arith, ints))
rank_rises (negsuc m) (pos n) fits_x fits_y h = omega (arith, ints)
rank_rises (negsuc m) (negsuc n) fits_x fits_y h = omega (arith, ints)

-- numbers compare as their ranks
rank_order : (x y : ℤ) → FitsSigned w64 x → FitsSigned w64 y → int_cmp x y ≡ nat_cmp (rank x) (rank y)
rank_order x y fits_x fits_y = go (int_cmp x y) (int_ranks x y)
  where
    go : (o : Ordering) → MatchOrdering o (x <ℤ y) (x ≡ y) (y <ℤ x) → o ≡ nat_cmp (rank x) (rank y)
    go Less h = nat_cmp_is _ _ Less (rank_rises x y fits_x fits_y h)
    go Equal h = nat_cmp_is _ _ Equal (ap rank h)
    go Greater h = nat_cmp_is _ _ Greater (rank_rises y x fits_y fits_x h)

-- ---- cells and keys

cell_order : (t : ColumnType) (x y : Value) (xs ys : List ℕ) → IsOfType t x → IsOfType t y
    → slice_cmp nat_cmp (key_cell x ++ xs) (key_cell y ++ ys) ≡ ordering_then (order_of x y) (slice_cmp nat_cmp xs ys)
cell_order type.BigInt (Int a) (Int b) xs ys p q = rw (rank_order a b p q) (numbers_order (rank a) (rank b) xs ys (rank_fits a p) (rank_fits b q))
cell_order type.Text (Text s) (Text t) xs ys p q = rw (append_assoc s, append_assoc t) (texts_order s t xs ys p.no_zero q.no_zero)
cell_order type.Boolean (Boolean false) (Boolean false) xs ys p q = refl
cell_order type.Boolean (Boolean false) (Boolean true) xs ys p q = refl
cell_order type.Boolean (Boolean true) (Boolean false) xs ys p q = refl
cell_order type.Boolean (Boolean true) (Boolean true) xs ys p q = refl
cell_order type.BigInt Null y xs ys p q = absurd p
cell_order type.BigInt (Int a) Null xs ys p q = absurd q
cell_order type.BigInt (Int a) (Text t) xs ys p q = absurd q
cell_order type.BigInt (Int a) (Boolean b) xs ys p q = absurd q
cell_order type.BigInt (Text s) y xs ys p q = absurd p
cell_order type.BigInt (Boolean b) y xs ys p q = absurd p
cell_order type.Text Null y xs ys p q = absurd p
cell_order type.Text (Int a) y xs ys p q = absurd p
cell_order type.Text (Text s) Null xs ys p q = absurd q
cell_order type.Text (Text s) (Int b) xs ys p q = absurd q
cell_order type.Text (Text s) (Boolean b) xs ys p q = absurd q
cell_order type.Text (Boolean b) y xs ys p q = absurd p
cell_order type.Boolean Null y xs ys p q = absurd p
cell_order type.Boolean (Int a) y xs ys p q = absurd p
cell_order type.Boolean (Text s) y xs ys p q = absurd p
cell_order type.Boolean (Boolean false) Null xs ys p q = absurd q
cell_order type.Boolean (Boolean false) (Int b) xs ys p q = absurd q
cell_order type.Boolean (Boolean false) (Text t) xs ys p q = absurd q
cell_order type.Boolean (Boolean true) Null xs ys p q = absurd q
cell_order type.Boolean (Boolean true) (Int b) xs ys p q = absurd q
cell_order type.Boolean (Boolean true) (Text t) xs ys p q = absurd q

-- two values of one type
pub record AreOfOneType (v w : Value) : Type 0 where
  pub kind : ColumnType
  pub first : IsOfType kind v
  pub second : IsOfType kind w

of_one_column : (o : Option Column) (v w : Value) → is_not_null o ≡ true → FitsColumnIfAny o v → FitsColumnIfAny o w → AreOfOneType v w
of_one_column None v w marked fits_v fits_w = cc
of_one_column (Some column) v w marked fits_v fits_w = record { kind = column.column_type; first = of_type_fits column v marked fits_v; second = of_type_fits column w marked fits_w }

-- two rows have values of one type at an index of a key
pub of_one_type : (columns : List Column) (p : ℕ) (a b : Row) → is_not_null_at columns p ≡ true → FitsColumns columns a → FitsColumns columns b → AreOfOneType (value_at a p) (value_at b p)
of_one_type columns p a b marked fits_a fits_b = of_one_column (slice_get columns p) (value_at a p) (value_at b p) marked (fits_a.each p) (fits_b.each p)

pub keys_order : KeyOrderIsByteOrder
keys_order columns [] a b marked fits_a fits_b = refl
keys_order columns (p ∷ key) a b marked fits_a fits_b =
    let parts = and_parts (is_not_null_at columns p) (list_all (is_not_null_at columns) key) marked in
    let one = of_one_type columns p a b parts.0 fits_a fits_b in
    cell_order one.kind (value_at a p) (value_at b p) (key_bytes (map (value_at a) key)) (key_bytes (map (value_at b) key)) one.first one.second
    ∙ ap (ordering_then (order_of (value_at a p) (value_at b p))) (keys_order columns key a b parts.1 fits_a fits_b)
