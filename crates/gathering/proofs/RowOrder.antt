-- Rows sorted by numbers are sorted by their keys.
use Rattle.std.proofs.Common.{◌≡◌, ℕ, Bool, true, false, ◌&&◌, List, [], ◌∷◌, length, refl, sym, ap, ◌∙◌, subst}
use Rattle.std.specs.Cmp.{IsTotalOrder}
use Rattle.std.specs.Cmp.Lexicographic.{slice_cmp}
use Rattle.std.specs.Fn.{Called, ComputesKey}
use Rattle.std.specs.List.{AllByRecursion}
use Rattle.std.specs.List.Sorted.{IsSortedByKey, IsSortedWithin, IsStableByKey}
use Rattle.std.specs.Ordering.{int_cmp, on, ordering_then}
use Rattle.std.specs.declared.cmp.Ordering.{Ordering}
use Rattle.std.specs.declared.cmp.Ordering.TheVariants.{Less, Equal, Greater}
use Rattle.std.proofs.lemmas.Cmp.{on_total}
use Rattle.std.proofs.lemmas.List.{map-id}
use Rattle.std.proofs.lemmas.List.Sorted.{answers_always}
use denote.Param.Members.{Mut}
use denote.Ref.{Bor}
use Rattle.sql_types.specs.declared.value.Value.{Value}
use Rattle.sql_types.specs.declared.value.Value.TheVariants.{Null, Int, Text, Bool as Boolean}
use Rattle.abstract_database.specs.Queries.{sorted}
use Rattle.gathering.specs.declared.sort_value.Directed.{Directed}
use Rattle.gathering.specs.declared.sort_value.Directed.TheVariants.{Ascending, Descending}
use Rattle.gathering.specs.declared.keyed_row.KeyedRow.{KeyedRow}
use Rattle.gathering.specs.contracts.keyed_row.KeyedRowOrd.TheImpl.Laws as laws
use Rattle.gathering.specs.Entries.{comes_before, directed_cmp, row_cmp}
use Rattle.gathering.specs.RowOrder.{are_numbered, has_none, has_number, is_directed_number, is_int, key_number, number_of_key}
use Rattle.gathering.specs.SortValues.{number_in, sort_cmp}
use Rattle.gathering.proofs.Ordered.{sort_is, sorted_for}

then_equal : (o : Ordering) → ordering_then o Equal ≡ o
then_equal Less = refl
then_equal Equal = refl
then_equal Greater = refl

-- numbers compare as ORDER BY compares them
numbers : (v w : Value) → is_int v ≡ true → is_int w ≡ true → sort_cmp (record { 0 = v }) (record { 0 = w }) ≡ int_cmp (number_in v) (number_in w)
numbers (Int m) (Int n) p q = then_equal (int_cmp m n)
numbers (Int m) (Text t) p q = cc
numbers (Int m) (Boolean b) p q = cc
numbers (Int m) Null p q = cc
numbers (Text t) w p q = cc
numbers (Boolean b) w p q = cc
numbers Null w p q = cc

rising : (x y : Directed) → is_directed_number false x ≡ true → is_directed_number false y ≡ true → directed_cmp x y ≡ int_cmp (number_of_key x) (number_of_key y)
rising (Ascending v) (Ascending w) p q = numbers v.0 w.0 p q
rising (Ascending v) (Descending w) p q = cc
rising (Descending v) y p q = cc

falling : (x y : Directed) → is_directed_number true x ≡ true → is_directed_number true y ≡ true → directed_cmp x y ≡ int_cmp (number_of_key y) (number_of_key x)
falling (Descending v) (Descending w) p q = numbers w.0.0 v.0.0 q p
falling (Descending v) (Ascending w) p q = cc
falling (Ascending v) y p q = cc

one_key : (x y : Directed) (xs ys : List Directed) → has_none xs ≡ true → has_none ys ≡ true → slice_cmp directed_cmp (x ∷ xs) (y ∷ ys) ≡ directed_cmp x y
one_key x y [] [] p q = then_equal (directed_cmp x y)
one_key x y [] (z ∷ zs) p q = cc
one_key x y (z ∷ zs) ys p q = cc

fst_true : (a b : Bool) → (a && b) ≡ true → a ≡ true
fst_true true b e = refl
fst_true false b e = cc

snd_true : (a b : Bool) → (a && b) ≡ true → b ≡ true
snd_true true b e = e
snd_true false b e = cc

abbrev pub Numbered : Bool → KeyedRow → Type 0
Numbered descending r = has_number descending r ≡ true

pub keys_rise : (a b : KeyedRow) → Numbered false a → Numbered false b → int_cmp (key_number a) (key_number b) ≡ row_cmp a b
keys_rise a b p q = sym (
    one_key a.first b.first a.others.items b.others.items (fst_true (has_none a.others.items) (is_directed_number false a.first) p) (fst_true (has_none b.others.items) (is_directed_number false b.first) q)
    ∙ rising a.first b.first (snd_true (has_none a.others.items) (is_directed_number false a.first) p) (snd_true (has_none b.others.items) (is_directed_number false b.first) q))

pub keys_fall : (a b : KeyedRow) → Numbered true a → Numbered true b → int_cmp (key_number b) (key_number a) ≡ row_cmp a b
keys_fall a b p q = sym (
    one_key a.first b.first a.others.items b.others.items (fst_true (has_none a.others.items) (is_directed_number true a.first) p) (fst_true (has_none b.others.items) (is_directed_number true b.first) q)
    ∙ falling a.first b.first (snd_true (has_none a.others.items) (is_directed_number true a.first) p) (snd_true (has_none b.others.items) (is_directed_number true b.first) q))

pub all_numbered : (descending : Bool) (rows : List KeyedRow) → are_numbered descending rows ≡ true → AllByRecursion (Numbered descending) rows
all_numbered descending [] e = tt
all_numbered descending (r ∷ rs) e =
    (fst_true (has_number descending r) (are_numbered descending rs) e, all_numbered descending rs (snd_true (has_number descending r) (are_numbered descending rs) e))

-- what a stable sort by other keys gives, where these compare as the rows do
pub sorted_by_keys : {K : Type 0} (key : KeyedRow → K) (cmp : K → K → Ordering) → IsTotalOrder cmp
    → (P : KeyedRow → Type 0) → ((a b : KeyedRow) → P a → P b → cmp (key a) (key b) ≡ row_cmp a b)
    → (rows there : List KeyedRow) → AllByRecursion P rows → IsSortedByKey key cmp there → IsStableByKey key cmp rows there
    → there ≡ sorted row_cmp rows
sorted_by_keys key cmp total P same rows there all s t =
    sort_is (on_total key total) rows there s t
    ∙ ap (sorted (on key cmp)) (sym (map-id rows))
    ∙ sorted_for P (λ (r : KeyedRow). r) row_cmp (on key cmp) same rows all
    ∙ map-id (sorted row_cmp rows)

-- the same of the clauses of a sort whose closure answers these keys
pub sorted_by_closure : {K F : Type 0} {g : Mut F (Bor KeyedRow × Unit {0}) K} {f : F} (key : KeyedRow → K) (cmp : K → K → Ordering) → IsTotalOrder cmp
    → (P : KeyedRow → Type 0) → ((a b : KeyedRow) → P a → P b → cmp (key a) (key b) ≡ row_cmp a b)
    → (rows there : List KeyedRow) → AllByRecursion P rows
    → ((k : KeyedRow → K) → ComputesKey g k f → IsSortedByKey k cmp there) → ((k : KeyedRow → K) → ComputesKey g k f → IsStableByKey k cmp rows there)
    → ((h : F) (a : Bor KeyedRow × Unit {0}) (r : K) (h' : F) → Called g h a r h' → r ≡ key a.0.now)
    → there ≡ sorted row_cmp rows
sorted_by_closure {K} {F} {g} {f} key cmp total P same rows there all s t calls =
    let computes : ComputesKey g key f = answers_always g (λ a r. r ≡ key a.0.now) f calls in
    sorted_by_keys key cmp total P same rows there all (s key computes) (t key computes)

-- rows that are in order stay as they are
pub in_order_already : (n : ℕ) (rows : List KeyedRow) → n ≡ length rows → IsSortedWithin comes_before rows 0 n → rows ≡ sorted row_cmp rows
in_order_already n rows all s = sort_is laws.total-law rows rows (subst (IsSortedWithin comes_before rows 0) all s) (λ x. refl)
