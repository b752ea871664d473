-- Bytes that are ASCII, none of them zero.
use Rattle.std.proofs.Common.{◌≢◌, ℕ, suc, ◌<◌, List, [], ◌∷◌, length, get_or, arith, inl, inr}
use Rattle.std.proofs.lemmas.Bool.{cases_lt}
use Rattle.std.proofs.lemmas.List.{get_or_past}
use Rattle.std.specs.Str.{IsAscii}
use Rattle.std.proofs.lemmas.Str.{IsUtf8-from_ascii}
use Rattle.sql_types.specs.Domain.{HasNoZero, IsText}

-- each byte is ASCII, and none is zero
abbrev pub ArePlain : List ℕ → Type 0
ArePlain bytes = (k : ℕ) → k < length bytes → (get_or bytes k 0 ≢ 0) × (get_or bytes k 0 < 128)

no_zero : (bytes : List ℕ) → ArePlain bytes → HasNoZero bytes
no_zero [] plain = tt
no_zero (b ∷ bytes) plain = ((plain 0 (omega arith)).0, no_zero bytes (λ k low. plain (suc k) (omega (arith, low))))

ascii : (bytes : List ℕ) → ArePlain bytes → IsAscii bytes
ascii bytes plain k = elim (cases_lt k (length bytes)) [
  | inl low ↦ (plain k low).1
  | inr past ↦ omega (arith, get_or_past bytes k 0 past)
]

pub plain_text : (bytes : List ℕ) → ArePlain bytes → IsText bytes
plain_text bytes plain = record { utf8 = IsUtf8-from_ascii bytes (ascii bytes plain); no_zero = no_zero bytes plain }
