-- The text of a verifier, as PostgreSQL writes it into pg_authid.rolpassword (PostgreSQL manual, "pg_authid").
use Rattle.std.specs.Prelude.{◌≡◌, ◌≤◌, ◌++◌, ℕ, List, codes, decimal}
use Rattle.scram_hashes.specs.Base64.{base64}
use Rattle.scram_hashes.specs.Keys.{TheVerifier, IsVerifier}

-- SCRAM-SHA-256$<iterations>:<salt>$<StoredKey>:<ServerKey>
abbrev pub joined : List ℕ → List ℕ → List ℕ → List ℕ → List ℕ
joined iterations salt stored_key server_key =
    codes "SCRAM-SHA-256" ++ (codes "$" ++ (iterations ++ (codes ":" ++ (salt ++ (codes "$" ++ (stored_key ++ (codes ":" ++ server_key)))))))

abbrev pub verifier_text : TheVerifier → List ℕ
verifier_text verifier =
    joined (decimal verifier.iterations) (base64 verifier.salt) (base64 verifier.stored_key) (base64 verifier.server_key)

-- this text spells this verifier
pub record SpellsVerifier (text : List ℕ) (verifier : TheVerifier) : Type 0 where
  pub is_verifier : IsVerifier verifier
  pub text_is : text ≡ verifier_text verifier

-- it spells none
abbrev pub SpellsNone : List ℕ → Type 0
SpellsNone text = (verifier : TheVerifier) → SpellsVerifier text verifier → ⊥

-- a count of iterations that a verifier may have
pub record IsIterationCount (iterations : ℕ) : Type 0 where
  pub least : 4096 ≤ iterations
  pub most : iterations ≤ 1000000

-- bytes that may be a salt
pub record IsSaltSize (size : ℕ) : Type 0 where
  pub some : 1 ≤ size
  pub short : size ≤ 64
