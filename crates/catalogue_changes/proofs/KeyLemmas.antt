-- The indices of a key are few and small.
use Rattle.std.proofs.Common.{◌≡◌, ◌<◌, ◌≤◌, ◌^◌, ℕ, zero, suc, not, false, nat_eq, IsTrue, List, [], ◌∷◌, length, get_or, arith, ap, sym, subst}
use Rattle.std.specs.List.{AllByRecursion, list_any, IsDistinct}
use Rattle.std.proofs.lemmas.Bool.{and_parts, or_parts, not-true}
use Rattle.std.proofs.lemmas.Map.Steps.{length-le_from_distinct_below}
use Rattle.sql_ast.specs.Layout.{Layout, IsLayout, all_differ}
use Rattle.row_codec.proofs.Layouts.{key_indices_within, all_at}

none_later : (k : ℕ) (ks : List ℕ) → list_any (nat_eq k) ks ≡ false → AllByRecursion (λ (y : ℕ). nat_eq k y ≡ false) ks
none_later k [] none = tt
none_later k (y ∷ ks) none = let parts = or_parts (nat_eq k y) (list_any (nat_eq k) ks) none in (parts.0, none_later k ks parts.1)

distinct_key : (key : List ℕ) → IsTrue (all_differ nat_eq key) → IsDistinct nat_eq key
unfolding IsDistinct
distinct_key [] h = tt
distinct_key (k ∷ key) h =
    let parts = and_parts (not (list_any (nat_eq k) key)) (all_differ nat_eq key) h in
    (none_later k key (not-true _ parts.0), distinct_key key parts.1)

-- a key has no more columns than the table
pub key_few : (layout : Layout) → IsLayout layout → (key : List ℕ) → key ≡ layout.key → length key < 2 ^ 8
key_few layout is key same =
    let within = key_indices_within layout.columns layout.key is.key_not_null in
    let few = is.few_columns in
    let all : length layout.key ≤ length layout.columns
    = length-le_from_distinct_below layout.key (length layout.columns) (distinct_key layout.key is.key_differs) (λ q there. all_at (λ (p : ℕ). p < length layout.columns) q layout.key there within) in
    let long : length key ≡ length layout.key = ap length same in
    omega (arith, all, few, long)

at_index : (n : ℕ) (key : List ℕ) → 0 < n → AllByRecursion (λ p. p < n) key → (i : ℕ) → get_or key i 0 < n
at_index n [] some all i = some
at_index n (p ∷ key) some all zero = all.0
at_index n (p ∷ key) some all (suc i) = at_index n key some all.1 i

-- and each index is one of a column
pub index_small : (layout : Layout) → IsLayout layout → (key : List ℕ) → key ≡ layout.key → (i : ℕ) → get_or key i 0 < 2 ^ 8
index_small layout is key same i =
    let few = is.few_columns in
    let within = subst (λ (ks : List ℕ). get_or ks i 0 < length layout.columns) (sym same) (at_index (length layout.columns) layout.key is.some_column (key_indices_within layout.columns layout.key is.key_not_null) i) in
    omega (arith, few, within)
