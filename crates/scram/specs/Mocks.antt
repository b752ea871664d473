-- What stands in for a role that has no verifier, so that a stranger cannot tell it from one that has.
use Rattle.std.specs.Prelude.{◌≡◌, ◌++◌, ℕ, Bool, true, false, List, take, codes, Option, Some, None, IfSome}
use Rattle.scram_hashes.specs.Hmac.{hmac_sha256}
use Rattle.scram_hashes.specs.Keys.{TheVerifier}
use Rattle.scram_hashes.specs.VerifierText.{SpellsVerifier, SpellsNone}

-- a secret, and how many iterations are told of
pub record TheMock : Type 0 where
  pub secret : List ℕ
  pub iterations : ℕ

-- the verifier of a role that has none: a salt of 16 bytes and two keys, each a code of its name
abbrev pub mock_verifier : TheMock → List ℕ → TheVerifier
mock_verifier mock role = record {
  salt = take 16 (hmac_sha256 mock.secret (codes "salt," ++ role));
  iterations = mock.iterations;
  stored_key = hmac_sha256 mock.secret (codes "stored key," ++ role);
  server_key = hmac_sha256 mock.secret (codes "server key," ++ role);
}

-- no verifier is stored: there is no text, or it spells none
abbrev pub StoresNone : Option (List ℕ) → Type 0
StoresNone stored = IfSome stored SpellsNone

-- the verifier that an exchange with a role goes by: the one that is stored, with its text, or else the mock's, with none
abbrev pub GoesBy : TheMock → List ℕ → Option (List ℕ) → TheVerifier → Option (List ℕ) → Type 0
GoesBy mock role stored verifier None = StoresNone stored × (verifier ≡ mock_verifier mock role)
GoesBy mock role stored verifier (Some text) = (stored ≡ Some text) × SpellsVerifier text verifier

-- the text of a verifier, where that is one which is stored
abbrev pub stored_text : Bool → List ℕ → Option (List ℕ)
stored_text true text = Some text
stored_text false text = None
