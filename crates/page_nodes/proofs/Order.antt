-- The order of keys.
use Rattle.std.proofs.Common.{◌≡◌, ℕ, true, false, List, [], ◌∷◌, refl}
use Rattle.std.specs.Cmp.{IsStrictWeakOrder}
use Rattle.std.proofs.lemmas.Cmp.{nat_list_cmp_total}
use Rattle.std.proofs.lemmas.List.MinMax.{ranks_by}
use Rattle.std.proofs.lemmas.Bool.{true_from_ne_false}
use Rattle.page_nodes.specs.Map.{is_below, Entry, AllAbove}

weak : IsStrictWeakOrder is_below
unfolding is_below
weak = ranks_by nat_list_cmp_total (λ x. x)

pub one_way : (a b : List ℕ) → is_below a b ≡ true → is_below b a ≡ false
one_way = weak.one_way

-- a ≤ b ≤ c
pub le_le : (a b c : List ℕ) → is_below b a ≡ false → is_below c b ≡ false → is_below c a ≡ false
le_le a b c ab bc = weak.chain c b a bc ab

-- a < b ≤ c
pub lt_le : (a b c : List ℕ) → is_below a b ≡ true → is_below c b ≡ false → is_below a c ≡ true
lt_le a b c ab bc = true_from_ne_false (is_below a c) (λ not. let e = weak.chain a c b not bc in cc)

-- a ≤ b < c
pub le_lt : (a b c : List ℕ) → is_below b a ≡ false → is_below b c ≡ true → is_below a c ≡ true
le_lt a b c ab bc = true_from_ne_false (is_below a c) (λ not. let e = weak.chain b a c ab not in cc)

pub lt_lt : (a b c : List ℕ) → is_below a b ≡ true → is_below b c ≡ true → is_below a c ≡ true
lt_lt a b c ab bc = lt_le a b c ab (one_way b c bc)

-- nothing is below the empty key
pub below_none : (key : List ℕ) → is_below key [] ≡ false
unfolding is_below
below_none [] = refl
below_none (x ∷ xs) = refl

pub above_all : (a b : List ℕ) (es : List Entry) → is_below a b ≡ true → AllAbove b es → AllAbove a es
above_all a b [] lt all = tt
above_all a b (e ∷ es) lt all = (lt_lt a b e.0 lt all.0, above_all a b es lt all.1)
