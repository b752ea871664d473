-- The indices of a key: they differ, and their columns are there and are NOT NULL.
use Rattle.std.proofs.Common.{◌≡◌, ◌≢◌, ℕ, zero, suc, ◌<◌, Bool, true, false, not, ◌&&◌, ◌||◌, IsTrue, Some, nat_eq, List, [], ◌∷◌, ◌++◌, length, take, get_or, refl, sym, ap, subst, ◌∙◌, ◌+◌, arith, slice_get}
use Rattle.std.specs.List.{list_any, list_all, AllByRecursion}
use Rattle.std.proofs.lemmas.Bool.Decides.{nat_tests}
use Rattle.std.proofs.lemmas.List.{take_more}
use Rattle.sql_types.specs.declared.value.Value.{Value}
use Rattle.sql_types.specs.declared.value.Value.TheVariants.{Null, Int, Text, Bool as Boolean}
use Rattle.sql_ast.specs.declared.columns.Column.{Column}
use Rattle.sql_ast.specs.declared.columns.ColumnType.{ColumnType}
use Rattle.sql_ast.specs.declared.columns.ColumnType.TheVariants as type
use Rattle.sql_ast.specs.Layout.{all_differ, is_not_null, is_not_null_at}
use Rattle.sql_ast.specs.Fits.{IsOfType, FitsColumn}

-- ---- facts about each element of a list

all_push : (P : ℕ → Type 0) (ps : List ℕ) (p : ℕ) → AllByRecursion P ps → P p → AllByRecursion P (ps ++ p ∷ [])
all_push P [] p all last = (last, tt)
all_push P (q ∷ ps) p all last = (all.0, all_push P ps p all.1 last)

pub all_more : (P : ℕ → Type 0) (ps : List ℕ) (i d : ℕ) → i < length ps → AllByRecursion P (take i ps) → P (get_or ps i d) → AllByRecursion P (take (i + 1) ps)
all_more P ps i d inside all last = subst (AllByRecursion P) (sym (take_more ps i d inside)) (all_push P (take i ps) (get_or ps i d) all last)

pub all_with : (P Q R : ℕ → Type 0) (ps : List ℕ) → ((p : ℕ) → P p → Q p → R p) → AllByRecursion P ps → AllByRecursion Q ps → AllByRecursion R ps
all_with P Q R [] f all both = tt
all_with P Q R (p ∷ ps) f all both = (f p all.0 both.0, all_with P Q R ps f all.1 both.1)

same_number : (p q : ℕ) → nat_eq p q ≡ true → p ≡ q
same_number p q e = grind (arith, nat_tests)

other_number : (p q : ℕ) → nat_eq p q ≡ false → q ≢ p
other_number p q e same = grind (arith, nat_tests)

pub all_at : (P : ℕ → Type 0) (p : ℕ) (ps : List ℕ) → list_any (nat_eq p) ps ≡ true → AllByRecursion P ps → P p
all_at P p [] among all = cc
all_at P p (q ∷ ps) among all = go (nat_eq p q) refl among (λ later. all_at P p ps later all.1)
  where
    go : (b : Bool) → b ≡ nat_eq p q → (b || list_any (nat_eq p) ps) ≡ true → (list_any (nat_eq p) ps ≡ true → P p) → P p
    go true e among later = subst P (sym (same_number p q (sym e))) all.0
    go false e among later = later among

or_parts : (a b : Bool) → (a || b) ≡ false → (a ≡ false) × (b ≡ false)
or_parts false b h = (refl, h)
or_parts true b h = cc

pub and_parts : (a b : Bool) → (a && b) ≡ true → (a ≡ true) × (b ≡ true)
and_parts true b h = (refl, h)
and_parts false b h = cc

not_true : (a : Bool) → not a ≡ true → a ≡ false
not_true false h = refl
not_true true h = cc

-- what is not among numbers differs from each
pub none_among : (p : ℕ) (ps : List ℕ) → list_any (nat_eq p) ps ≡ false → AllByRecursion (λ q. q ≢ p) ps
none_among p [] none = tt
none_among p (q ∷ ps) none =
    let parts = or_parts (nat_eq p q) (list_any (nat_eq p) ps) none in
    (other_number p q parts.0, none_among p ps parts.1)

at_none : (P : ℕ → Type 0) (ps : List ℕ) (i d : ℕ) → i < length ps → AllByRecursion P ps → P (get_or ps i d)
at_none P [] i d inside all = absurd (omega arith)
at_none P (p ∷ ps) zero d inside all = all.0
at_none P (p ∷ ps) (suc i) d inside all = at_none P ps i d (omega arith) all.1

-- an index of a key differs from each index before it
pub indices_before : (key : List ℕ) (i d : ℕ) → IsTrue (all_differ nat_eq key) → i < length key → AllByRecursion (λ q. q ≢ get_or key i d) (take i key)
indices_before [] i d differ inside = absurd (omega arith)
indices_before (p ∷ key) zero d differ inside = tt
indices_before (p ∷ key) (suc i) d differ inside =
    let parts = and_parts (not (list_any (nat_eq p) key)) (all_differ nat_eq key) differ in
    let later = at_none (λ q. q ≢ p) key i d (omega arith) (none_among p key (not_true _ parts.0)) in
    ((λ same. later (sym same)), indices_before key i d parts.1 (omega arith))

not_null_each : (columns : List Column) (key : List ℕ) (i d : ℕ) → IsTrue (list_all (is_not_null_at columns) key) → i < length key → is_not_null (slice_get columns (get_or key i d)) ≡ true
not_null_each columns [] i d all inside = absurd (omega arith)
not_null_each columns (p ∷ key) zero d all inside = (and_parts _ (list_all (is_not_null_at columns) key) all).0
not_null_each columns (p ∷ key) (suc i) d all inside = not_null_each columns key i d (and_parts (is_not_null_at columns p) (list_all (is_not_null_at columns) key) all).1 (omega arith)

-- a column of a key is NOT NULL
pub key_column_not_null : (columns : List Column) (key : List ℕ) (i d : ℕ) (column : Column) → IsTrue (list_all (is_not_null_at columns) key) → i < length key
    → Some column ≡ slice_get columns (get_or key i d) → column.not_null ≡ true
key_column_not_null columns key i d column all inside there = ap is_not_null there ∙ not_null_each columns key i d all inside

within : (columns : List Column) (p : ℕ) → is_not_null (slice_get columns p) ≡ true → p < length columns
within [] p marked = cc
within (c ∷ columns) zero marked = omega arith
within (c ∷ columns) (suc p) marked = let rest = within columns p marked in omega arith

-- and is there
pub key_index_within : (columns : List Column) (key : List ℕ) (i d : ℕ) → IsTrue (list_all (is_not_null_at columns) key) → i < length key → get_or key i d < length columns
key_index_within columns key i d all inside = within columns (get_or key i d) (not_null_each columns key i d all inside)

pub key_indices_within : (columns : List Column) (key : List ℕ) → IsTrue (list_all (is_not_null_at columns) key) → AllByRecursion (λ p. p < length columns) key
key_indices_within columns [] all = tt
key_indices_within columns (p ∷ key) all =
    let parts = and_parts (is_not_null_at columns p) (list_all (is_not_null_at columns) key) all in
    (within columns p parts.0, key_indices_within columns key parts.1)

-- ---- values that fit

pub fits_of_type : (column : Column) (v : Value) → IsOfType column.column_type v → FitsColumn column v
fits_of_type column Null of_type = go column.column_type of_type
  where
    go : (t : ColumnType) → IsOfType t Null → column.not_null ≡ false
    go type.BigInt h = absurd h
    go type.Text h = absurd h
    go type.Boolean h = absurd h
fits_of_type column (Int z) of_type = of_type
fits_of_type column (Text t) of_type = of_type
fits_of_type column (Boolean b) of_type = of_type

pub of_type_fits : (column : Column) (v : Value) → column.not_null ≡ true → FitsColumn column v → IsOfType column.column_type v
of_type_fits column Null not_null fits = let nulls : column.not_null ≡ false = fits in cc
of_type_fits column (Int z) not_null fits = fits
of_type_fits column (Text t) not_null fits = fits
of_type_fits column (Boolean b) not_null fits = fits
