-- Keys that are compared byte by byte.
use Rattle.std.proofs.Common.{◌≡◌, ℕ, ◌+◌, ◌-◌, ◌≤◌, min, inl, inr, false, nat_lt, List, [], ◌∷◌, refl, sym, ap, ◌∙◌, arith, length, drop}
use Rattle.std.proofs.lemmas.Bool.{lt-ltb, le-ltb, cases_lt}
use Rattle.std.proofs.lemmas.List.{length-drop, nil_from_length}
use Rattle.std.specs.Cmp.Lexicographic.{slice_cmp}
use Rattle.std.specs.Ordering.{is_lt, nat_cmp}

nothing_left : (xs : List ℕ) (n : ℕ) → length xs ≤ n → drop n xs ≡ []
nothing_left xs n all = nil_from_length (drop n xs) (let e = length-drop n xs in omega (arith, e, all))

shorter : (ys : List ℕ) (n : ℕ) → is_lt (slice_cmp nat_cmp [] ys) ≡ nat_lt n (n + length ys)
shorter [] n = sym (le-ltb n (n + 0) (omega arith))
shorter (y ∷ ys) n = sym (lt-ltb n (n + length (y ∷ ys)) (omega arith))

longer : (xs : List ℕ) → is_lt (slice_cmp nat_cmp xs []) ≡ false
longer [] = refl
longer (x ∷ xs) = refl

-- where one of the keys ends, the shorter comes first
pub one_ends : (a b : List ℕ) (n : ℕ) → n ≤ length a → n ≤ length b → min (length a) (length b) ≤ n → is_lt (slice_cmp nat_cmp (drop n a) (drop n b)) ≡ nat_lt (length a) (length b)
one_ends a b n inside within end = elim (cases_lt (length a) (length b)) [
  | inl lt ↦
      let is : n ≡ length a = omega (arith, end, inside, lt) in
      rw (nothing_left a n (omega (arith, is))) (shorter (drop n b) n ∙ ap (λ (m : ℕ). nat_lt n m) (whole (length-drop n b)) ∙ ap (λ (m : ℕ). nat_lt m (length b)) is)
  | inr from ↦ rw (nothing_left b n (omega (arith, end, from))) (longer (drop n a) ∙ sym (le-ltb (length a) (length b) from))
]
  where
    whole : length (drop n b) ≡ length b - n → n + length (drop n b) ≡ length b
    whole e = omega (arith, e, within)
