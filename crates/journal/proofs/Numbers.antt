-- Bytes are those of the numbers that stand in them.
use Rattle.std.proofs.Common.{◌≡◌, ℕ, zero, suc, ◌+◌, ◌≤◌, ◌<◌, List, [], ◌∷◌, ◌++◌, length, take, drop, get_or, refl, sym, ap, ◌∙◌, arith}
use Rattle.std.specs.Int.{w16, w64, from_be_bytes}
use Rattle.std.proofs.lemmas.Nat.{be_bytes_2, be_bytes_8}
use Rattle.std.proofs.lemmas.List.{take-append-drop, drop-drop, length-take-le, length-drop, get_or-drop}
use Rattle.byteorder.specs.Endian.{big_number, big_bytes}
use Rattle.byteorder.specs.Numbers.{big_from-take}

-- a list of bytes
abbrev pub IsBytes : List ℕ → Type 0
IsBytes bytes = (i : ℕ) → get_or bytes i 0 < 256

pub IsBytes-drop : (n : ℕ) (bytes : List ℕ) → IsBytes bytes → IsBytes (drop n bytes)
IsBytes-drop n bytes fit i = rw get_or-drop (fit (n + i))

IsBytes-take : (n : ℕ) (bytes : List ℕ) → IsBytes bytes → IsBytes (take n bytes)
IsBytes-take zero bytes fit i = omega arith
IsBytes-take (suc n) [] fit i = fit i
IsBytes-take (suc n) (b ∷ bytes) fit zero = fit 0
IsBytes-take (suc n) (b ∷ bytes) fit (suc i) = IsBytes-take n bytes (λ k. fit (suc k)) i

two_read : (bytes : List ℕ) → big_number 2 bytes ≡ from_be_bytes w16 bytes
two_read bytes = omega arith

eight_read : (bytes : List ℕ) → big_number 8 bytes ≡ from_be_bytes w64 bytes
eight_read bytes = omega arith

two_front : (bytes : List ℕ) → IsBytes bytes → 2 ≤ length bytes → big_bytes 2 (big_number 2 bytes) ≡ take 2 bytes
two_front bytes fit long =
    ap (big_bytes 2) (sym (big_from-take 0 2 2 bytes (omega arith)))
    ∙ be_bytes_2 (take 2 bytes) (big_number 2 (take 2 bytes)) (length-take-le 2 bytes long) (IsBytes-take 2 bytes fit) (two_read (take 2 bytes))

eight_front : (bytes : List ℕ) → IsBytes bytes → 8 ≤ length bytes → big_bytes 8 (big_number 8 bytes) ≡ take 8 bytes
eight_front bytes fit long =
    ap (big_bytes 8) (sym (big_from-take 0 8 8 bytes (omega arith)))
    ∙ be_bytes_8 (take 8 bytes) (big_number 8 (take 8 bytes)) (length-take-le 8 bytes long) (IsBytes-take 8 bytes fit) (eight_read (take 8 bytes))

-- the number at a place, and what stands behind it
pub two_at : (place : ℕ) (bytes : List ℕ) → IsBytes bytes → place + 2 ≤ length bytes → drop place bytes ≡ big_bytes 2 (big_number 2 (drop place bytes)) ++ drop (place + 2) bytes
two_at place bytes fit room =
    let rest : List ℕ = drop place bytes in
    let long : 2 ≤ length (drop place bytes) = omega (arith, length-drop place bytes) in
    sym (take-append-drop 2 rest)
    ∙ ap (λ (front : List ℕ). front ++ drop 2 rest) (sym (two_front rest (IsBytes-drop place bytes fit) long))
    ∙ ap (λ (behind : List ℕ). big_bytes 2 (big_number 2 rest) ++ behind) (drop-drop 2 place bytes)

pub eight_at : (place : ℕ) (bytes : List ℕ) → IsBytes bytes → place + 8 ≤ length bytes → drop place bytes ≡ big_bytes 8 (big_number 8 (drop place bytes)) ++ drop (place + 8) bytes
eight_at place bytes fit room =
    let rest : List ℕ = drop place bytes in
    let long : 8 ≤ length (drop place bytes) = omega (arith, length-drop place bytes) in
    sym (take-append-drop 8 rest)
    ∙ ap (λ (front : List ℕ). front ++ drop 8 rest) (sym (eight_front rest (IsBytes-drop place bytes fit) long))
    ∙ ap (λ (behind : List ℕ). big_bytes 8 (big_number 8 rest) ++ behind) (drop-drop 8 place bytes)

pub append_nothing : (bytes : List ℕ) → bytes ++ [] ≡ bytes
append_nothing [] = refl
append_nothing (b ∷ bytes) = ap (λ (rest : List ℕ). b ∷ rest) (append_nothing bytes)
