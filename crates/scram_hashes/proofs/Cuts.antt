-- Texts that are cut at a byte.
use Rattle.std.proofs.Common.{◌≡◌, ◌≢◌, ◌++◌, ◌∷◌, [], List, ℕ, refl}
use Rattle.std.specs.Prelude.{All}
use Rattle.std.proofs.lemmas.List.Elements.{All-head, All-tail}

-- where the byte is in neither front, there is one cut
pub same_cut : (c : ℕ) (xs ys zs ws : List ℕ) → All (λ b. b ≢ c) xs → All (λ b. b ≢ c) zs → xs ++ c ∷ ys ≡ zs ++ c ∷ ws → (xs ≡ zs) × (ys ≡ ws)
same_cut c [] ys [] ws one other e = let tails : ys ≡ ws = cc e in (refl, tails)
same_cut c [] ys (z ∷ zs) ws one other e =
    let heads : z ≡ c = cc e in
    absurd (All-head (λ b. b ≢ c) z zs other heads)
same_cut c (x ∷ xs) ys [] ws one other e =
    let heads : x ≡ c = cc e in
    absurd (All-head (λ b. b ≢ c) x xs one heads)
same_cut c (x ∷ xs) ys (z ∷ zs) ws one other e =
    let heads : x ≡ z = cc e in
    let tails : xs ++ c ∷ ys ≡ zs ++ c ∷ ws = cc e in
    let rest = same_cut c xs ys zs ws (All-tail (λ b. b ≢ c) x xs one) (All-tail (λ b. b ≢ c) z zs other) tails in
    let fronts : xs ≡ zs = rest.0 in
    let whole : x ∷ xs ≡ z ∷ zs = cc in
    (whole, rest.1)
