-- First messages, and where they are cut.
use Rattle.std.proofs.Common.{◌≡◌, ◌≢◌, ◌++◌, ◌∷◌, ◌<◌, List, ℕ, length, arith, sym, ◌∙◌}
use Rattle.std.specs.Prelude.{All, codes}
use Rattle.std.proofs.lemmas.List.{append_cancel_left, length-append}
use Rattle.std.proofs.lemmas.List.Elements.{All-get_or}
use Rattle.std.proofs.Math.Seq.{get_or-append_seam}
use Rattle.scram_hashes.proofs.Cuts.{same_cut}
use Rattle.scram.specs.declared.messages.Binding.{Binding}
use Rattle.scram.specs.declared.messages.Binding.TheVariants.{Unsupported, Unoffered}
use Rattle.scram.specs.Messages.{IsFirstMessage, header}

-- a text has one header
pub same_header : (a b : Binding) (xs ys : List ℕ) → header a ++ xs ≡ header b ++ ys → xs ≡ ys
same_header Unsupported Unsupported xs ys e = append_cancel_left (codes "n,,") xs ys e
same_header Unsupported Unoffered xs ys e = cc e
same_header Unoffered Unsupported xs ys e = cc e
same_header Unoffered Unoffered xs ys e = append_cancel_left (codes "y,,") xs ys e

-- what stands behind the name's letter, and behind the header
pub bare_of : (text : List ℕ) (a b : Binding) (bare nonce rest : List ℕ) → IsFirstMessage text b bare nonce → text ≡ header a ++ rest → rest ≡ bare
bare_of text a b bare nonce rest it e = same_header a b rest bare (sym e ∙ it.text_is)

pub named_of : (text : List ℕ) (a b : Binding) (bare nonce rest named : List ℕ) (it : IsFirstMessage text b bare nonce) → text ≡ header a ++ rest
    → rest ≡ codes "n=" ++ named → named ≡ it.name ++ 44 ∷ (codes "r=" ++ nonce)
named_of text a b bare nonce rest named it e f =
    append_cancel_left (codes "n=") named (it.name ++ 44 ∷ (codes "r=" ++ nonce)) (sym f ∙ bare_of text a b bare nonce rest it e ∙ it.bare_is)

-- there is a comma behind the name
pub has_comma : (named front rest : List ℕ) → named ≡ front ++ 44 ∷ rest → All (λ b. b ≢ 44) named → ⊥
has_comma named front rest e none =
    let whole = rw e at none in
    let size = length-append front (44 ∷ rest) in
    let below : length front < length (front ++ 44 ∷ rest) = omega (arith, size) in
    All-get_or (λ b. b ≢ 44) (front ++ 44 ∷ rest) (length front) 0 below whole (get_or-append_seam front 44 rest 0)

-- and the nonce behind that
pub nonce_of : (named front attributes name nonce : List ℕ) → named ≡ front ++ 44 ∷ attributes → named ≡ name ++ 44 ∷ (codes "r=" ++ nonce)
    → All (λ b. b ≢ 44) front → All (λ b. b ≢ 44) name → attributes ≡ codes "r=" ++ nonce
nonce_of named front attributes name nonce e f none other =
    (same_cut 44 front attributes name (codes "r=" ++ nonce) none other (sym e ∙ f)).1
