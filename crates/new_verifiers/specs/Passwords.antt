-- Passwords that mean the same to every client, and what is drawn for one.
use Rattle.std.specs.Prelude.{◌≤◌, ℕ, List, All, length, take}
use Rattle.base64.specs.Engines.{url_safe_no_pad}
use Rattle.base64.specs.GeneralPurpose.{encode_of}
use Rattle.scram_hashes.specs.Keys.{TheVerifier, verifier_of}

-- a byte of a password: of ASCII, from the space to the tilde
pub record IsPasswordByte (byte : ℕ) : Type 0 where
  pub low : 0x20 ≤ byte
  pub high : byte ≤ 0x7E

-- a password: 1 to 1,024 of them
pub record IsPassword (password : List ℕ) : Type 0 where
  pub some : 1 ≤ length password
  pub short : length password ≤ 1024
  pub bytes : All IsPasswordByte password

-- the password of bytes that were drawn: they, in base64url without padding (RFC 4648, 5)
abbrev pub drawn_password : List ℕ → List ℕ
drawn_password drawn = encode_of url_safe_no_pad drawn

-- the verifier of a password for which these bytes were drawn: the first 16 are its salt, and it has 4,096 iterations
abbrev pub new_verifier : List ℕ → List ℕ → TheVerifier
new_verifier password drawn = verifier_of password (take 16 drawn) 4096

-- a verifier of drawn keys, which nobody has the password of
abbrev pub nobodys_verifier : List ℕ → List ℕ → List ℕ → TheVerifier
nobodys_verifier drawn stored_key server_key = record {
  salt = take 16 drawn;
  iterations = 4096;
  stored_key = stored_key;
  server_key = server_key;
}
