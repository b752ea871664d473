-- The keys of a password, what is stored in its place, and what shows that somebody has it (RFC 5802, 3). The names are those of the RFC.
use Rattle.std.specs.Prelude.{◌≡◌, ◌≤◌, ℕ, List, length, codes}
use Rattle.base64.specs.GeneralPurpose.{IsBytes}
use Rattle.sha2.specs.Sha256.{sha256}
use Rattle.scram_hashes.specs.Hmac.{hmac_sha256}
use Rattle.scram_hashes.specs.Pbkdf2.{hi, xor_bytes}

-- ClientKey, StoredKey and ServerKey of a SaltedPassword
abbrev pub client_key : List ℕ → List ℕ
client_key salted = hmac_sha256 salted (codes "Client Key")

abbrev pub stored_key_of : List ℕ → List ℕ
stored_key_of salted = sha256 (client_key salted)

abbrev pub server_key_of : List ℕ → List ℕ
server_key_of salted = hmac_sha256 salted (codes "Server Key")

-- what a server stores in place of a password
pub record TheVerifier : Type 0 where
  pub salt : List ℕ
  pub iterations : ℕ
  pub stored_key : List ℕ
  pub server_key : List ℕ

-- the verifier of a password
abbrev pub verifier_of : List ℕ → List ℕ → ℕ → TheVerifier
verifier_of password salt iterations = record {
  salt = salt;
  iterations = iterations;
  stored_key = stored_key_of (hi password salt iterations);
  server_key = server_key_of (hi password salt iterations);
}

-- a verifier that may be stored
pub record IsVerifier (verifier : TheVerifier) : Type 0 where
  pub some_salt : 1 ≤ length verifier.salt
  pub short_salt : length verifier.salt ≤ 64
  pub salt_bytes : IsBytes verifier.salt
  pub least : 4096 ≤ verifier.iterations
  pub most : verifier.iterations ≤ 1000000
  pub stored_size : length verifier.stored_key ≡ 32
  pub stored_bytes : IsBytes verifier.stored_key
  pub server_size : length verifier.server_key ≡ 32
  pub server_bytes : IsBytes verifier.server_key

-- ClientProof: what somebody with the password makes for these messages
abbrev pub client_proof : List ℕ → List ℕ → List ℕ
client_proof salted messages = xor_bytes (client_key salted) (hmac_sha256 (stored_key_of salted) messages)

-- ClientSignature taken off the proof leaves a key, and its digest is the stored key
abbrev pub ShowsPassword : TheVerifier → List ℕ → List ℕ → Type 0
ShowsPassword verifier messages proof = sha256 (xor_bytes proof (hmac_sha256 verifier.stored_key messages)) ≡ verifier.stored_key

-- ServerSignature: what shows to the client that the server has the verifier
abbrev pub server_signature : TheVerifier → List ℕ → List ℕ
server_signature verifier messages = hmac_sha256 verifier.server_key messages

-- who has the password can show it, for any messages
abbrev pub PasswordShows : List ℕ → List ℕ → ℕ → List ℕ → Type 0
PasswordShows password salt iterations messages =
    ShowsPassword (verifier_of password salt iterations) messages (client_proof (hi password salt iterations) messages)
