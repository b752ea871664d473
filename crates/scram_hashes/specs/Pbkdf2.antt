-- PBKDF2 (RFC 8018, 5.2) with HMAC-SHA-256 and a key of 32 bytes, which is one block: `Hi` of RFC 5802, 2.2.
use Rattle.std.specs.Prelude.{ℕ, zero, suc, ◌-◌, List, [], ◌∷◌, ◌++◌, bit_xor}
use Rattle.scram_hashes.specs.Hmac.{hmac_sha256}

-- two lists, byte by byte, up to the end of the shorter one
unfoldable pub xor_bytes : List ℕ → List ℕ → List ℕ
xor_bytes [] others = []
xor_bytes (byte ∷ rest) [] = []
xor_bytes (byte ∷ rest) (other ∷ others) = bit_xor byte other ∷ xor_bytes rest others

-- U1 is the code of the salt and the number 1 in four bytes, each further one the code of the one before; counted from 0
unfoldable pub code_number : List ℕ → List ℕ → ℕ → List ℕ
code_number password salt zero = hmac_sha256 password (salt ++ 0 ∷ 0 ∷ 0 ∷ 1 ∷ [])
code_number password salt (suc n) = hmac_sha256 password (code_number password salt n)

-- U1 xor U2 xor ..
unfoldable pub xor_up_to : List ℕ → List ℕ → ℕ → List ℕ
xor_up_to password salt zero = code_number password salt zero
xor_up_to password salt (suc n) = xor_bytes (xor_up_to password salt n) (code_number password salt (suc n))

-- Hi(password, salt, iterations), of one iteration or more
abbrev pub hi : List ℕ → List ℕ → ℕ → List ℕ
hi password salt iterations = xor_up_to password salt (iterations - 1)
