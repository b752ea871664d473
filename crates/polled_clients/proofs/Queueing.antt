-- Who waits.
use Rattle.std.proofs.Common.{◌≡◌, ◌==◌, ◌||◌, ℕ, Bool, true, false, List, [], ◌∷◌, ◌++◌, refl, ap, subst}
use Rattle.std.specs.List.{list_any}
use Rattle.talks.specs.Clients.{put_last}

abbrev IsIn : ℕ → List ℕ → Bool → Type 0
IsIn c xs b = list_any (λ d. d == c) xs ≡ b

-- who waits already keeps its place
there_first : (c d : ℕ) (ds : List ℕ) (b : Bool) → (d == c) ≡ b → IsIn c (d ∷ ds) true → (IsIn c ds true → put_last c ds ≡ ds) → put_last c (d ∷ ds) ≡ d ∷ ds
there_first c d ds true is there rest = rw (is) refl
there_first c d ds false is there rest = rw (is) (ap (λ (l : List ℕ). d ∷ l) (rest (subst (λ (b : Bool). (b || list_any (λ e. e == c) ds) ≡ true) is there)))

pub put_there : (c : ℕ) (xs : List ℕ) → list_any (λ d. d == c) xs ≡ true → put_last c xs ≡ xs
put_there c [] there = cc
put_there c (d ∷ ds) there = there_first c d ds (d == c) refl there (put_there c ds)

-- another comes last
new_last : (c d : ℕ) (ds : List ℕ) (b : Bool) → (d == c) ≡ b → IsIn c (d ∷ ds) false → (IsIn c ds false → put_last c ds ≡ ds ++ c ∷ []) → put_last c (d ∷ ds) ≡ (d ∷ ds) ++ c ∷ []
new_last c d ds true is none rest = let no : true ≡ false = subst (λ (b : Bool). (b || list_any (λ e. e == c) ds) ≡ false) is none in cc
new_last c d ds false is none rest = rw (is) (ap (λ (l : List ℕ). d ∷ l) (rest (subst (λ (b : Bool). (b || list_any (λ e. e == c) ds) ≡ false) is none)))

pub put_new : (c : ℕ) (xs : List ℕ) → list_any (λ d. d == c) xs ≡ false → put_last c xs ≡ xs ++ c ∷ []
put_new c [] none = refl
put_new c (d ∷ ds) none = new_last c d ds (d == c) refl none (put_new c ds)
