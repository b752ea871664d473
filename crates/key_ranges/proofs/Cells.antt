-- The cell of a value that is within a bound is within that of the bound, whatever comes after it.
use Rattle.std.proofs.Common.{◌≡◌, ◌≢◌, ℕ, zero, suc, ◌<◌, Bool, true, false, not, ◌||◌, nat_eq, List, [], ◌∷◌, ◌++◌, length, Some, refl, sym, ap, subst, ◌∙◌, arith, append-nil}
use Rattle.std.specs.Prelude.{ℤ, pos, negsuc, FitsSigned, slice_get}
use Rattle.std.specs.List.{list_any}
use Rattle.std.specs.Int.{w64}
use Rattle.std.proofs.lemmas.Bool.Decides.{nat_tests}
use Rattle.std.specs.declared.cmp.Ordering.{Ordering}
use Rattle.std.specs.declared.cmp.Ordering.TheVariants.{Less, Equal, Greater}
use Rattle.std.specs.Ordering.{nat_cmp, int_cmp, is_lt, is_gt, ordering_then}
use Rattle.std.specs.Cmp.{nat_cmp_is}
use Rattle.sql_types.specs.declared.value.Value.{Value}
use Rattle.sql_types.specs.declared.value.Value.TheVariants.{Null, Int, Text, Bool as Boolean}
use Rattle.sql_types.specs.Value.{compare_values}
use Rattle.sql_types.specs.Domain.{HasNoZero}
use Rattle.sql_types.specs.Row.{value_at}
use Rattle.sql_ast.specs.declared.columns.Column.{Column}
use Rattle.sql_ast.specs.declared.columns.ColumnType.{ColumnType}
use Rattle.sql_ast.specs.declared.columns.ColumnType.TheVariants as type
use Rattle.sql_ast.specs.Fits.{IsOfType, FitsColumns, FitsColumnIfAny}
use Rattle.expressions.specs.Operators.{is_bigint}
use Rattle.store.specs.Records.{key_cmp, is_from, is_not_less, has_prefix}
use Rattle.store.specs.Walks.{is_within}
use Rattle.store.proofs.Changes.{same_key}
use Rattle.store.proofs.HeldItems.{same_front, own_prefix}
use Rattle.row_codec.specs.Cells.{key_cell}
use Rattle.row_codec.proofs.Order.{keys_order}
use Rattle.key_ranges.specs.declared.bounds.BoundKind.TheVariants as kind
use Rattle.key_ranges.specs.Bounds.{is_key_value}
use Rattle.key_ranges.proofs.Conditions.{IsWithin}

-- ---- bytes and what comes after them

-- what is greater stays so, whatever comes after it
greater_stays : (a b rest : List ℕ) → key_cmp a b ≡ Greater → key_cmp (a ++ rest) b ≡ Greater
greater_stays [] [] rest h = cc
greater_stays [] (y ∷ b) rest h = cc
greater_stays (x ∷ a) [] rest h = refl
greater_stays (x ∷ a) (y ∷ b) rest h = go (nat_cmp x y) h (greater_stays a b rest)
  where
    go : (o : Ordering) → ordering_then o (key_cmp a b) ≡ Greater → (key_cmp a b ≡ Greater → key_cmp (a ++ rest) b ≡ Greater) → ordering_then o (key_cmp (a ++ rest) b) ≡ Greater
    go Less e later = cc
    go Equal e later = later e
    go Greater e later = refl

-- and what is less than bytes of its length
less_stays : (a b rest : List ℕ) → length a ≡ length b → key_cmp a b ≡ Less → key_cmp (a ++ rest) b ≡ Less
less_stays [] [] rest l h = cc
less_stays [] (y ∷ b) rest l h = absurd (omega arith)
less_stays (x ∷ a) [] rest l h = cc
less_stays (x ∷ a) (y ∷ b) rest l h = let same : length a ≡ length b = omega arith in go (nat_cmp x y) h (less_stays a b rest same)
  where
    go : (o : Ordering) → ordering_then o (key_cmp a b) ≡ Less → (key_cmp a b ≡ Less → key_cmp (a ++ rest) b ≡ Less) → ordering_then o (key_cmp (a ++ rest) b) ≡ Less
    go Less e later = refl
    go Equal e later = later e
    go Greater e later = cc

-- bytes that go on are not less
from_own : (p rest : List ℕ) → is_from p (p ++ rest) ≡ true
from_own p rest = subst (λ k. is_from k (p ++ rest) ≡ true) (append-nil p) (ap is_not_less (same_front p rest []) ∙ go rest)
  where
    go : (rest : List ℕ) → is_not_less (key_cmp rest []) ≡ true
    go [] = refl
    go (x ∷ rest) = refl

within_own : (p rest : List ℕ) → is_within p (p ++ rest) ≡ true
within_own p rest = rw (own_prefix p rest) refl

from_order : (a b rest : List ℕ) (o : Ordering) → key_cmp a b ≡ o → not (is_lt o) ≡ true → is_from b (a ++ rest) ≡ true
from_order a b rest Less e h = cc
from_order a b rest Equal e h = subst (λ k. is_from b (k ++ rest) ≡ true) (sym (same_key a b e)) (from_own b rest)
from_order a b rest Greater e h = ap is_not_less (greater_stays a b rest e)

less_within : (stop key : List ℕ) → key_cmp key stop ≡ Less → is_within stop key ≡ true
less_within stop key h = go (has_prefix stop key) (ap is_lt h)
  where
    go : (b : Bool) → is_lt (key_cmp key stop) ≡ true → (b || is_lt (key_cmp key stop)) ≡ true
    go true e = refl
    go false e = e

within_order : (a b rest : List ℕ) (o : Ordering) → key_cmp a b ≡ o → not (is_gt o) ≡ true → (key_cmp a b ≡ Less → key_cmp (a ++ rest) b ≡ Less) → is_within b (a ++ rest) ≡ true
within_order a b rest Less e h stays = less_within b (a ++ rest) (stays e)
within_order a b rest Equal e h stays = subst (λ k. is_within b (k ++ rest) ≡ true) (sym (same_key a b e)) (within_own b rest)
within_order a b rest Greater e h stays = cc

-- ---- texts

is_less : (a b : ℕ) → a < b → nat_cmp a b ≡ Less
is_less a b h = sym (nat_cmp_is a b Less h)

is_greater : (a b : ℕ) → b < a → nat_cmp a b ≡ Greater
is_greater a b h = sym (nat_cmp_is a b Greater h)

-- a text's zero byte is less than each byte of another text
texts_order : (s t : List ℕ) → HasNoZero s → HasNoZero t → key_cmp (s ++ 0 ∷ []) (t ++ 0 ∷ []) ≡ key_cmp s t
texts_order [] [] free_s free_t = refl
texts_order [] (y ∷ t) free_s free_t = rw (is_less 0 y (let some : y ≢ 0 = free_t.0 in omega (arith, some))) refl
texts_order (x ∷ s) [] free_s free_t = rw (is_greater x 0 (let some : x ≢ 0 = free_s.0 in omega (arith, some))) refl
texts_order (x ∷ s) (y ∷ t) free_s free_t = ap (ordering_then (nat_cmp x y)) (texts_order s t free_s.1 free_t.1)

text_stays : (s t rest : List ℕ) → HasNoZero t → key_cmp s t ≡ Less → key_cmp ((s ++ 0 ∷ []) ++ rest) (t ++ 0 ∷ []) ≡ Less
text_stays [] [] rest free h = cc
text_stays [] (y ∷ t) rest free h = rw (is_less 0 y (let some : y ≢ 0 = free.0 in omega (arith, some))) refl
text_stays (x ∷ s) [] rest free h = cc
text_stays (x ∷ s) (y ∷ t) rest free h = go (nat_cmp x y) h (text_stays s t rest free.1)
  where
    go : (o : Ordering) → ordering_then o (key_cmp s t) ≡ Less → (key_cmp s t ≡ Less → key_cmp ((s ++ 0 ∷ []) ++ rest) (t ++ 0 ∷ []) ≡ Less) → ordering_then o (key_cmp ((s ++ 0 ∷ []) ++ rest) (t ++ 0 ∷ [])) ≡ Less
    go Less e later = refl
    go Equal e later = later e
    go Greater e later = cc

no_zero : (t : List ℕ) → not (list_any (nat_eq 0) t) ≡ true → HasNoZero t
no_zero [] h = tt
no_zero (x ∷ t) h = go (nat_eq 0 x) refl h (no_zero t)
  where
    go : (b : Bool) → b ≡ nat_eq 0 x → not (b || list_any (nat_eq 0) t) ≡ true → (not (list_any (nat_eq 0) t) ≡ true → HasNoZero t) → (x ≢ 0) × HasNoZero t
    go true e f later = cc
    go false e f later = (λ same. grind (arith, nat_tests), later f)

-- ---- numbers

abbrev the_column : Column
the_column = record { name = []; column_type = type.BigInt; not_null = true }

fits_alone : (z : ℤ) → FitsSigned w64 z → FitsColumns (the_column ∷ []) (Int z ∷ [])
fits_alone z fits = record { width = refl; each = each }
  where
    each : (index : ℕ) → FitsColumnIfAny (slice_get (the_column ∷ []) index) (value_at (Int z ∷ []) index)
    each zero = fits
    each (suc index) = tt

then_equal : (o : Ordering) → ordering_then o Equal ≡ o
then_equal Less = refl
then_equal Equal = refl
then_equal Greater = refl

numbers_order : (a b : ℤ) → FitsSigned w64 a → FitsSigned w64 b → key_cmp (key_cell (Int a)) (key_cell (Int b)) ≡ int_cmp a b
numbers_order a b fits_a fits_b =
    keys_order (the_column ∷ []) (0 ∷ []) (Int a ∷ []) (Int b ∷ []) refl (fits_alone a fits_a) (fits_alone b fits_b) ∙ then_equal (int_cmp a b)

bigint_fits : (z : ℤ) → is_bigint z ≡ true → FitsSigned w64 z
bigint_fits (pos n) h = grind (arith, nat_tests)
bigint_fits (negsuc n) h = grind (arith, nat_tests)

-- ---- cells

-- how the cells of a value of a type and of another compare, and that what comes after the first changes nothing
record Cells (x v : Value) (o : Ordering) : Type 0 where
  pub order : key_cmp (key_cell x) (key_cell v) ≡ o
  pub stays : (rest : List ℕ) → key_cmp (key_cell x) (key_cell v) ≡ Less → key_cmp (key_cell x ++ rest) (key_cell v) ≡ Less

some_same : (a b : Ordering) → Some a ≡ Some b → a ≡ b
some_same a b h = cc

cells : (t : ColumnType) (x v : Value) (o : Ordering) → IsOfType t x → is_key_value v ≡ true → compare_values x v ≡ Some o → Cells x v o
cells type.BigInt (Int a) (Int b) o p q h = record {
  order = numbers_order a b p (bigint_fits b q) ∙ some_same (int_cmp a b) o h;
  stays = λ rest. less_stays (key_cell (Int a)) (key_cell (Int b)) rest refl;
}
cells type.Text (Text s) (Text t) o p q h = record {
  order = texts_order s t p.no_zero (no_zero t q) ∙ some_same (key_cmp s t) o h;
  stays = λ rest l. text_stays s t rest (no_zero t q) (sym (texts_order s t p.no_zero (no_zero t q)) ∙ l);
}
cells type.Boolean (Boolean false) (Boolean false) o p q h = record { order = some_same Equal o h; stays = λ rest. less_stays (0 ∷ []) (0 ∷ []) rest refl }
cells type.Boolean (Boolean false) (Boolean true) o p q h = record { order = some_same Less o h; stays = λ rest. less_stays (0 ∷ []) (1 ∷ []) rest refl }
cells type.Boolean (Boolean true) (Boolean false) o p q h = record { order = some_same Greater o h; stays = λ rest. less_stays (1 ∷ []) (0 ∷ []) rest refl }
cells type.Boolean (Boolean true) (Boolean true) o p q h = record { order = some_same Equal o h; stays = λ rest. less_stays (1 ∷ []) (1 ∷ []) rest refl }
cells type.BigInt (Int a) Null o p q h = cc
cells type.BigInt (Int a) (Text t) o p q h = cc
cells type.BigInt (Int a) (Boolean b) o p q h = cc
cells type.Text (Text s) Null o p q h = cc
cells type.Text (Text s) (Int b) o p q h = cc
cells type.Text (Text s) (Boolean b) o p q h = cc
cells type.Boolean (Boolean a) Null o p q h = cc
cells type.Boolean (Boolean a) (Int b) o p q h = cc
cells type.Boolean (Boolean a) (Text t) o p q h = cc
cells type.BigInt Null v o p q h = absurd p
cells type.BigInt (Text s) v o p q h = absurd p
cells type.BigInt (Boolean b) v o p q h = absurd p
cells type.Text Null v o p q h = absurd p
cells type.Text (Int a) v o p q h = absurd p
cells type.Text (Boolean b) v o p q h = absurd p
cells type.Boolean Null v o p q h = absurd p
cells type.Boolean (Int a) v o p q h = absurd p
cells type.Boolean (Text s) v o p q h = absurd p

pub lower_cell : (t : ColumnType) (x v : Value) (rest : List ℕ) → IsOfType t x → IsWithin kind.Lower x v → is_from (key_cell v) (key_cell x ++ rest) ≡ true
lower_cell t x v rest p w = from_order (key_cell x) (key_cell v) rest w.order (cells t x v w.order p w.key_value w.compared).order w.allowed

pub upper_cell : (t : ColumnType) (x v : Value) (rest : List ℕ) → IsOfType t x → IsWithin kind.Upper x v → is_within (key_cell v) (key_cell x ++ rest) ≡ true
upper_cell t x v rest p w =
    let both = cells t x v w.order p w.key_value w.compared in
    within_order (key_cell x) (key_cell v) rest w.order both.order w.allowed (both.stays rest)
