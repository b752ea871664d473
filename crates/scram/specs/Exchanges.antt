-- An exchange: what a server answers to a client's two messages, and what was shown by them.
use Rattle.std.specs.Prelude.{◌≡◌, ℕ, List, length, Option, Some}
use Rattle.base64.specs.GeneralPurpose.{IsBytes}
use Rattle.scram_hashes.specs.Keys.{TheVerifier, ShowsPassword}
use Rattle.scram_hashes.specs.VerifierText.{SpellsVerifier}
use Rattle.scram.specs.declared.messages.Binding.{Binding}
use Rattle.scram.specs.Messages.{IsFirstMessage, whole_nonce, server_first, client_final, auth_message}
use Rattle.scram.specs.Mocks.{TheMock, GoesBy}

-- an exchange that has begun: the verifier that it goes by, the text that spells it where one is stored, and the parts of the messages
pub record TheExchange : Type 0 where
  pub verifier : TheVerifier
  pub text : Option (List ℕ)
  pub binding : Binding
  pub bare : List ℕ
  pub nonce : List ℕ

-- what is told to the client first
abbrev pub challenge : TheExchange → List ℕ
challenge x = server_first x.verifier x.nonce

-- what both sides sign
abbrev pub messages : TheExchange → List ℕ
messages x = auth_message x.bare x.verifier x.binding x.nonce

-- the exchange that a first message begins, with this row of the role and these bytes drawn
pub record BeginsExchange (mock : TheMock) (role : List ℕ) (stored : Option (List ℕ)) (drawn first : List ℕ) (x : TheExchange) : Type 0 where
  pub nonce : List ℕ
  pub is_first : IsFirstMessage first x.binding x.bare nonce
  pub nonce_is : x.nonce ≡ whole_nonce nonce drawn
  pub goes_by : GoesBy mock role stored x.verifier x.text

-- it is no first message
abbrev pub IsNoFirst : List ℕ → Type 0
IsNoFirst first = (binding : Binding) (bare nonce : List ℕ) → IsFirstMessage first binding bare nonce → ⊥

-- the last message has this proof
pub record HasProof (x : TheExchange) (last proof : List ℕ) : Type 0 where
  pub size : length proof ≡ 32
  pub are_bytes : IsBytes proof
  pub last_is : last ≡ client_final x.binding x.nonce proof

-- the last message shows the password of a verifier that is still stored, by this text
pub record IsShownLogin (x : TheExchange) (last : List ℕ) (stored : Option (List ℕ)) (text : List ℕ) : Type 0 where
  pub proof : List ℕ
  pub has_proof : HasProof x last proof
  pub shows : ShowsPassword x.verifier (messages x) proof
  pub was_stored : x.text ≡ Some text
  pub is_stored : stored ≡ Some text

-- it shows none
abbrev pub IsRefusedLogin : TheExchange → List ℕ → Option (List ℕ) → Type 0
IsRefusedLogin x last stored = (text : List ℕ) → IsShownLogin x last stored text → ⊥

-- The messages of one client show the password of this verifier: the first one, and the last one, which answers what was drawn in between
pub record Authenticates (verifier : TheVerifier) (drawn first last : List ℕ) : Type 0 where
  pub binding : Binding
  pub bare : List ℕ
  pub nonce : List ℕ
  pub proof : List ℕ
  pub is_first : IsFirstMessage first binding bare nonce
  pub last_is : last ≡ client_final binding (whole_nonce nonce drawn) proof
  pub size : length proof ≡ 32
  pub are_bytes : IsBytes proof
  pub shows : ShowsPassword verifier (auth_message bare verifier binding (whole_nonce nonce drawn)) proof

-- the text that was stored when the exchange began, and still is, spells a verifier, and the client's messages show its password
pub record WasShown (stored now : Option (List ℕ)) (drawn first last text : List ℕ) : Type 0 where
  pub was_stored : stored ≡ Some text
  pub is_stored : now ≡ Some text
  pub verifier : TheVerifier
  pub spells : SpellsVerifier text verifier
  pub authenticates : Authenticates verifier drawn first last
