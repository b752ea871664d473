-- Where the name of a role ends.
use Rattle.std.proofs.Common.{◌≡◌, ◌≢◌, ◌==◌, ℕ, false, List, [], ◌∷◌, ◌++◌, refl, ap, ◌∙◌, arith}
use Rattle.std.specs.Prelude.{All}
use Rattle.std.proofs.lemmas.Bool.Decides.{nat_tests}
use Rattle.std.proofs.lemmas.List.Elements.{All-head, All-tail}
use Rattle.password_talks.specs.EarlyFrames.{named, unnamed, longer, cut_at_zero}

-- a byte that is not zero
goes_on : (byte : ℕ) (bytes : List ℕ) → byte ≢ 0 → cut_at_zero (byte ∷ bytes) ≡ longer byte (cut_at_zero bytes)
goes_on byte bytes not_zero =
    let t : (byte == 0) ≡ false = grind (arith, nat_tests) in
    rw t

pub cut_there : (front rest : List ℕ) → All (λ byte. byte ≢ 0) front → cut_at_zero (front ++ 0 ∷ rest) ≡ named front rest
cut_there [] rest none = refl
cut_there (byte ∷ front) rest none =
    goes_on byte (front ++ 0 ∷ rest) (All-head (λ byte. byte ≢ 0) byte front none)
    ∙ ap (longer byte) (cut_there front rest (All-tail (λ byte. byte ≢ 0) byte front none))

pub cut_nowhere : (bytes : List ℕ) → All (λ byte. byte ≢ 0) bytes → cut_at_zero bytes ≡ unnamed
cut_nowhere [] none = refl
cut_nowhere (byte ∷ bytes) none =
    goes_on byte bytes (All-head (λ byte. byte ≢ 0) byte bytes none)
    ∙ ap (longer byte) (cut_nowhere bytes (All-tail (λ byte. byte ≢ 0) byte bytes none))
