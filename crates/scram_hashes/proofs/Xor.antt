-- Lists of bytes, xor each other.
use Rattle.std.proofs.Common.{◌≡◌, ◌<◌, ◌∷◌, [], List, ℕ, zero, suc, length, refl, arith, ap, sym, ◌∙◌}
use Rattle.std.specs.Prelude.{get_or, bit_xor, bit_or, ◌≤◌}
use Rattle.std.specs.Int.Bits.{xor_assoc, xor_self, xor_zero_r, xor_zero_l}
use Rattle.std.proofs.lemmas.Nat.{le_or_l, le_or_r}
use Rattle.sha2.proofs.Facts256.{length-sha256}
use Rattle.scram_hashes.specs.Hmac.{hmac_sha256}
use Rattle.scram_hashes.specs.Pbkdf2.{xor_bytes}

pub length-xor_bytes : (xs ys : List ℕ) → length xs ≡ length ys → length (xor_bytes xs ys) ≡ length xs
unfolding xor_bytes
length-xor_bytes [] ys e = refl
length-xor_bytes (x ∷ xs) [] e = omega arith
length-xor_bytes (x ∷ xs) (y ∷ ys) e = ap suc (length-xor_bytes xs ys (omega arith))

pub get_or-xor_bytes : (xs ys : List ℕ) (i d : ℕ) → i < length xs → i < length ys
    → get_or (xor_bytes xs ys) i d ≡ bit_xor (get_or xs i d) (get_or ys i d)
unfolding xor_bytes
get_or-xor_bytes [] ys i d below other = absurd (omega arith)
get_or-xor_bytes (x ∷ xs) [] i d below other = absurd (omega arith)
get_or-xor_bytes (x ∷ xs) (y ∷ ys) zero d below other = refl
get_or-xor_bytes (x ∷ xs) (y ∷ ys) (suc i) d below other = get_or-xor_bytes xs ys i d (omega arith) (omega arith)

-- what was mixed in twice is gone
xor-twice : (a b : ℕ) → bit_xor (bit_xor a b) b ≡ a
xor-twice a b = xor_assoc a b b ∙ ap (bit_xor a) (xor_self b) ∙ xor_zero_r a

pub xor_bytes-twice : (xs ys : List ℕ) → length xs ≡ length ys → xor_bytes (xor_bytes xs ys) ys ≡ xs
unfolding xor_bytes
xor_bytes-twice [] ys e = refl
xor_bytes-twice (x ∷ xs) [] e = absurd (omega arith)
xor_bytes-twice (x ∷ xs) (y ∷ ys) e = rw (xor-twice x y, xor_bytes-twice xs ys (omega arith)) refl

xor-zero : (a b : ℕ) → bit_xor a b ≡ 0 → a ≡ b
xor-zero a b e = sym (xor-twice a b) ∙ ap (λ x. bit_xor x b) e ∙ xor_zero_l b

-- there is no difference so far, and none here
pub or-xor-zero : (before a b : ℕ) → bit_or before (bit_xor a b) ≡ 0 → (before ≡ 0) × (a ≡ b)
or-xor-zero before a b e =
    let left : before ≤ bit_or before (bit_xor a b) = le_or_l before (bit_xor a b) in
    let right : bit_xor a b ≤ bit_or before (bit_xor a b) = le_or_r before (bit_xor a b) in
    let none : bit_xor a b ≡ 0 = omega arith in
    (omega arith, xor-zero a b none)

pub length-hmac_sha256 : (key message : List ℕ) → length (hmac_sha256 key message) ≡ 32
unfolding hmac_sha256
length-hmac_sha256 key message = length-sha256 _
