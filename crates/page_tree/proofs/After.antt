-- A key with a zero byte after it is the least key after it.
use Rattle.std.proofs.Common.{◌≡◌, ◌⊎◌, ⊎_elim, inl, inr, ℕ, zero, suc, ◌<◌, true, false, List, [], ◌∷◌, ◌++◌, refl, sym, ◌∙◌, arith}
use Rattle.std.specs.Ordering.{is_lt, nat_cmp}
use Rattle.std.specs.Cmp.{nat_cmp_is}
use Rattle.std.specs.Cmp.Lexicographic.{slice_cmp}
use Rattle.std.specs.declared.cmp.Ordering.TheVariants.{Less, Equal, Greater}
use Rattle.std.proofs.lemmas.Bool.{false≢true}
use Rattle.page_nodes.specs.Map.{is_below}

-- one number is less, the same or more
sides : (x y : ℕ) → (x < y) ⊎ ((x ≡ y) ⊎ (y < x))
sides zero zero = inr (inl refl)
sides zero (suc y) = inl (omega arith)
sides (suc x) zero = inr (inr (omega arith))
sides (suc x) (suc y) = ⊎_elim (λ l. inl (omega (arith, l))) (λ m. inr (⊎_elim (λ e. inl (omega (arith, e))) (λ r. inr (omega (arith, r))) m)) (sides x y)

less : (x y : ℕ) → x < y → nat_cmp x y ≡ Less
less x y h = sym (nat_cmp_is x y Less h)

same : (x y : ℕ) → x ≡ y → nat_cmp x y ≡ Equal
same x y h = sym (nat_cmp_is x y Equal h)

more : (x y : ℕ) → y < x → nat_cmp x y ≡ Greater
more x y h = sym (nat_cmp_is x y Greater h)

not_before_none : (ys : List ℕ) → is_lt (slice_cmp nat_cmp ys []) ≡ false
not_before_none [] = refl
not_before_none (y ∷ ys) = refl

not_before_zero : (y : ℕ) (ys : List ℕ) → is_lt (slice_cmp nat_cmp (y ∷ ys) (0 ∷ [])) ≡ false
not_before_zero zero ys = not_before_none ys
not_before_zero (suc y) ys = let e : nat_cmp (suc y) 0 ≡ Greater = more (suc y) 0 (omega arith) in rw e refl

either : (a b : List ℕ) → ((is_lt (slice_cmp nat_cmp b (a ++ (0 ∷ []))) ≡ true) × (is_lt (slice_cmp nat_cmp a b) ≡ false)) ⊎ ((is_lt (slice_cmp nat_cmp b (a ++ (0 ∷ []))) ≡ false) × (is_lt (slice_cmp nat_cmp a b) ≡ true))
either [] [] = inl (refl, refl)
either [] (y ∷ ys) = inr (not_before_zero y ys, refl)
either (x ∷ xs) [] = inl (refl, refl)
either (x ∷ xs) (y ∷ ys) = ⊎_elim
    (λ l. let one = less x y l in let two = more y x l in inr (rw two refl, rw one refl))
    (λ m. ⊎_elim
    (λ e. let one = same x y e in let two = same y x (sym e) in rw (one, two) (either xs ys))
    (λ r. let one = more x y r in let two = less y x r in inl (rw two refl, rw one refl)) m) (sides x y)

pub up : (a b : List ℕ) → is_below b (a ++ (0 ∷ [])) ≡ false → is_below a b ≡ true
unfolding is_below
up a b e = ⊎_elim (λ one. absurd (false≢true (sym e ∙ one.0))) (λ two. two.1) (either a b)

pub down : (a b : List ℕ) → is_below b (a ++ (0 ∷ [])) ≡ true → is_below a b ≡ false
unfolding is_below
down a b e = ⊎_elim (λ one. one.1) (λ two. absurd (false≢true (sym two.0 ∙ e))) (either a b)
