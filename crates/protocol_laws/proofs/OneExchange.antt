-- An exchange begins in one way, and shows one thing.
use Rattle.std.proofs.Common.{◌≡◌, ◌∙◌, ℕ, List, ◌∷◌, ◌++◌, refl, sym, ap, subst, arith, Option, Some, None}
use Rattle.std.specs.Prelude.{codes, slice_index}
use Rattle.std.proofs.lemmas.List.{append_cancel_left}
use Rattle.scram_hashes.specs.Keys.{TheVerifier}
use Rattle.scram_hashes.specs.VerifierText.{SpellsVerifier}
use Rattle.scram_hashes.proofs.Cuts.{same_cut}
use Rattle.scram_hashes.proofs.Texts.{same_Spells}
use Rattle.scram.specs.declared.messages.Binding.{Binding}
use Rattle.scram.specs.declared.messages.Binding.TheVariants.{Unsupported, Unoffered}
use Rattle.scram.specs.Exchanges.{TheExchange, BeginsExchange, IsShownLogin}
use Rattle.scram.specs.Messages.{IsFirstMessage, header, whole_nonce}
use Rattle.scram.specs.Mocks.{TheMock, GoesBy, StoresNone}
use Rattle.scram.proofs.Firsts.{same_header}
use Rattle.password_talks.specs.Logins.{IsMockOf, mock_of}

-- ---- first messages

same_binding : (a b : Binding) (xs ys : List ℕ) → header a ++ xs ≡ header b ++ ys → a ≡ b
same_binding Unsupported Unsupported xs ys e = refl
same_binding Unsupported Unoffered xs ys e = let first : 110 ≡ 121 = ap (λ (l : List ℕ). slice_index l 0) e in absurd (omega (arith, first))
same_binding Unoffered Unsupported xs ys e = let first : 121 ≡ 110 = ap (λ (l : List ℕ). slice_index l 0) e in absurd (omega (arith, first))
same_binding Unoffered Unoffered xs ys e = refl

pub one_first : (text : List ℕ) (a b : Binding) (bare other nonce also : List ℕ) → IsFirstMessage text a bare nonce → IsFirstMessage text b other also → (a ≡ b) × (bare ≡ other) × (nonce ≡ also)
one_first text a b bare other nonce also one two =
    let whole : header a ++ bare ≡ header b ++ other = sym one.text_is ∙ two.text_is in
    let bares : bare ≡ other = same_header a b bare other whole in
    let named : one.name ++ 44 ∷ (codes "r=" ++ nonce) ≡ two.name ++ 44 ∷ (codes "r=" ++ also) =
    append_cancel_left (codes "n=") (one.name ++ 44 ∷ (codes "r=" ++ nonce)) (two.name ++ 44 ∷ (codes "r=" ++ also)) (sym one.bare_is ∙ bares ∙ two.bare_is) in
    let cut = same_cut 44 one.name (codes "r=" ++ nonce) two.name (codes "r=" ++ also) one.no_comma two.no_comma named in
    (same_binding a b bare other whole, bares, append_cancel_left (codes "r=") nonce also cut.1)

-- ---- verifiers

same_some : (s t : List ℕ) (o : Option (List ℕ)) → o ≡ Some s → o ≡ Some t → s ≡ t
same_some s t o is it = let both : Some s ≡ Some t = sym is ∙ it in cc

-- a text that is stored and spells a verifier is not none
stored_and_none : (stored : Option (List ℕ)) (text : List ℕ) (v : TheVerifier) → stored ≡ Some text → SpellsVerifier text v → StoresNone stored → ⊥
stored_and_none stored text v is spells none = subst StoresNone is none v spells

spelled_once : (stored : Option (List ℕ)) (s t : List ℕ) (v w : TheVerifier) → stored ≡ Some s → stored ≡ Some t → SpellsVerifier s v → SpellsVerifier t w → v ≡ w
spelled_once stored s t v w is it one two = same_Spells t v w (subst (λ (x : List ℕ). SpellsVerifier x v) (same_some s t stored is it) one) two

pub one_basis : (mock : TheMock) (role : List ℕ) (stored : Option (List ℕ)) (v w : TheVerifier) (o p : Option (List ℕ)) → GoesBy mock role stored v o → GoesBy mock role stored w p → (v ≡ w) × (o ≡ p)
one_basis mock role stored v w None None one two = (one.1 ∙ sym two.1, refl)
one_basis mock role stored v w None (Some t) one two = absurd (stored_and_none stored t w two.0 two.1 one.0)
one_basis mock role stored v w (Some s) None one two = absurd (stored_and_none stored s v one.0 one.1 two.0)
one_basis mock role stored v w (Some s) (Some t) one two = (spelled_once stored s t v w one.0 two.0 one.1 two.1, ap Some (same_some s t stored one.0 two.0))

-- the mock of what is stored for its role
pub one_mock : (stored : Option (List ℕ)) (m n : TheMock) → IsMockOf stored m → IsMockOf stored n → m ≡ n
one_mock stored m n one two = one.mock_is ∙ ap mock_of (spelled_once stored one.text two.text one.verifier two.verifier one.is_stored two.is_stored one.spells two.spells) ∙ sym two.mock_is

pub mock_and_none : (stored : Option (List ℕ)) (m : TheMock) → IsMockOf stored m → StoresNone stored → ⊥
mock_and_none stored m is none = stored_and_none stored is.text is.verifier is.is_stored is.spells none

-- ---- exchanges

abbrev exchange_of : TheVerifier → Option (List ℕ) → Binding → List ℕ → List ℕ → TheExchange
exchange_of v t b bare nonce = record { verifier = v; text = t; binding = b; bare = bare; nonce = nonce }

pub one_exchange : (mock : TheMock) (role : List ℕ) (stored : Option (List ℕ)) (drawn first : List ℕ) (x y : TheExchange) → BeginsExchange mock role stored drawn first x → BeginsExchange mock role stored drawn first y → x ≡ y
one_exchange mock role stored drawn first x y one two =
    let parts = one_first first x.binding y.binding x.bare y.bare one.nonce two.nonce one.is_first two.is_first in
    let basis = one_basis mock role stored x.verifier y.verifier x.text y.text one.goes_by two.goes_by in
    let nonces : x.nonce ≡ y.nonce = one.nonce_is ∙ ap (λ (n : List ℕ). whole_nonce n drawn) parts.2 ∙ sym two.nonce_is in
    ap (λ (v : TheVerifier). exchange_of v x.text x.binding x.bare x.nonce) basis.0
    ∙ ap (λ (t : Option (List ℕ)). exchange_of y.verifier t x.binding x.bare x.nonce) basis.1
    ∙ ap (λ (b : Binding). exchange_of y.verifier y.text b x.bare x.nonce) parts.0
    ∙ ap (λ (bare : List ℕ). exchange_of y.verifier y.text y.binding bare x.nonce) parts.1
    ∙ ap (exchange_of y.verifier y.text y.binding y.bare) nonces

-- it shows one text
pub one_shown : (x : TheExchange) (last : List ℕ) (stored : Option (List ℕ)) (s t : List ℕ) → IsShownLogin x last stored s → IsShownLogin x last stored t → s ≡ t
one_shown x last stored s t one two = same_some s t stored one.is_stored two.is_stored
