-- The messages of an exchange (RFC 5802, 7; RFC 7677), as a server without channel binding and extensions reads and writes them.
use Rattle.std.specs.Prelude.{◌≡◌, ◌≢◌, ◌≤◌, ◌++◌, ◌∷◌, ℕ, List, length, codes, decimal, All}
use Rattle.scram_hashes.specs.Base64.{base64}
use Rattle.scram_hashes.specs.Keys.{TheVerifier, server_signature}
use Rattle.scram.specs.declared.messages.Binding.{Binding}
use Rattle.scram.specs.declared.messages.Binding.TheVariants.{Unsupported, Unoffered}

-- what a client says of channel binding, as the header of its first message
abbrev pub header : Binding → List ℕ
header Unsupported = codes "n,,"
header Unoffered = codes "y,,"

-- a byte of a nonce: printable, and no comma
pub record IsNonceByte (byte : ℕ) : Type 0 where
  pub low : 0x21 ≤ byte
  pub high : byte ≤ 0x7E
  pub no_comma : byte ≢ 0x2C

-- client-first-message-bare: a name, which says nothing here, and a nonce
abbrev pub first_bare : List ℕ → List ℕ → List ℕ
first_bare name nonce = codes "n=" ++ (name ++ 0x2C ∷ (codes "r=" ++ nonce))

-- the text is a client's first message, of these parts
pub record IsFirstMessage (text : List ℕ) (binding : Binding) (bare nonce : List ℕ) : Type 0 where
  pub name : List ℕ
  pub no_comma : All (λ byte. byte ≢ 0x2C) name
  pub nonce_bytes : All IsNonceByte nonce
  pub some_nonce : 1 ≤ length nonce
  pub bare_is : bare ≡ first_bare name nonce
  pub text_is : text ≡ header binding ++ bare

-- the nonce of the exchange: the client's, and behind it what the server drew
abbrev pub whole_nonce : List ℕ → List ℕ → List ℕ
whole_nonce nonce drawn = nonce ++ base64 drawn

-- server-first-message
abbrev pub server_first : TheVerifier → List ℕ → List ℕ
server_first verifier nonce =
    codes "r=" ++ (nonce ++ (codes ",s=" ++ (base64 verifier.salt ++ (codes ",i=" ++ decimal verifier.iterations))))

-- client-final-message-without-proof: the header again, in base64, and the nonce of the exchange
abbrev pub final_bare : Binding → List ℕ → List ℕ
final_bare binding nonce = codes "c=" ++ (base64 (header binding) ++ (codes ",r=" ++ nonce))

-- client-final-message
abbrev pub client_final : Binding → List ℕ → List ℕ → List ℕ
client_final binding nonce proof = final_bare binding nonce ++ (codes ",p=" ++ base64 proof)

-- AuthMessage, which both sides sign
abbrev pub auth_message : List ℕ → TheVerifier → Binding → List ℕ → List ℕ
auth_message bare verifier binding nonce =
    bare ++ (codes "," ++ (server_first verifier nonce ++ (codes "," ++ final_bare binding nonce)))

-- server-final-message
abbrev pub server_final : TheVerifier → List ℕ → List ℕ
server_final verifier messages = codes "v=" ++ base64 (server_signature verifier messages)
