-- Bytes and their base64.
use Rattle.std.proofs.Common.{◌≡◌, ◌≢◌, ◌+◌, ◌*◌, ◌/◌, ◌%◌, ◌++◌, ◌∷◌, [], List, ℕ, zero, suc, length, refl, arith, ap, sym, ◌∙◌, true, inl, inr}
use Rattle.std.specs.Prelude.{replicate, slice_index, All, not, nat_eq, ◌≤◌}
use Rattle.std.specs.List.{list_all, AllByRecursion}
use Rattle.std.proofs.lemmas.Bool.{cases_lt}
use Rattle.std.proofs.lemmas.List.Sums.{AllPass-from_list_all}
use Rattle.std.proofs.lemmas.List.{length-append}
use Rattle.std.proofs.lemmas.List.Elements.{All-append, All-from_recursion, All-replicate}
use Rattle.base64.specs.Engines.{standard}
use Rattle.base64.specs.GeneralPurpose.{decode_of, IsBytes}
use Rattle.base64.specs.Rfc4648.{encode_symbols, padding_len, unpadded_len}
use Rattle.base64.proofs.RoundTrip.{length-encode_symbols}
use Rattle.base64.proofs.EngineFacts.{decode_of-encode_of}
use Rattle.scram_hashes.specs.Base64.{base64, Encodes}

-- one text, one run of bytes
pub base64-injective : (a b : List ℕ) → IsBytes a → IsBytes b → base64 a ≡ base64 b → a ≡ b
base64-injective a b bytes others e =
    let both = sym (decode_of-encode_of standard a refl bytes) ∙ ap (decode_of standard) e ∙ decode_of-encode_of standard b refl others in
    cc both

pub same_Encodes : (text a b : List ℕ) → Encodes text a → Encodes text b → a ≡ b
same_Encodes text a b one other = base64-injective a b one.are_bytes other.are_bytes (sym one.text_is ∙ other.text_is)

-- as many bytes have as much text
size_of : (t a b : List ℕ) → length a ≡ length b
    → length (encode_symbols t a ++ replicate (padding_len (length a)) 61) ≡ length (encode_symbols t b ++ replicate (padding_len (length b)) 61)
size_of t a b e =
    let symbols : length (encode_symbols t a) ≡ length (encode_symbols t b) =
    length-encode_symbols t a ∙ ap unpadded_len e ∙ sym (length-encode_symbols t b) in
    let signs : length (replicate (padding_len (length a)) 61) ≡ length (replicate (padding_len (length b)) 61) =
    ap (λ (n : ℕ). length {A = ℕ} (replicate (padding_len n) 61)) e in
    length-append (encode_symbols t a) (replicate (padding_len (length a)) 61)
    ∙ (ap (λ (n : ℕ). n + length {A = ℕ} (replicate (padding_len (length a)) 61)) symbols
    ∙ ap (λ (n : ℕ). length (encode_symbols t b) + n) signs)
    ∙ sym (length-append (encode_symbols t b) (replicate (padding_len (length b)) 61))

pub length-base64 : (a b : List ℕ) → length a ≡ length b → length (base64 a) ≡ length (base64 b)
length-base64 a b e = size_of _ a b e

-- a byte that is no symbol stands in no text
symbols_lack : (t : List ℕ) (c : ℕ) → ((i : ℕ) → slice_index t i ≢ c) → (m : List ℕ) → AllByRecursion (λ b. b ≢ c) (encode_symbols t m)
unfolding encode_symbols
symbols_lack t c other [] = tt
symbols_lack t c other (a ∷ []) = (other (a / 4), (other (a % 4 * 16), tt))
symbols_lack t c other (a ∷ b ∷ []) = (other (a / 4), (other (a % 4 * 16 + b / 16), (other (b % 16 * 4), tt)))
symbols_lack t c other (a ∷ b ∷ d ∷ rest) =
    (other (a / 4), (other (a % 4 * 16 + b / 16), (other (b % 16 * 4 + d / 64), (other (d % 64), symbols_lack t c other rest))))

past : (xs : List ℕ) (i : ℕ) → length xs ≤ i → slice_index xs i ≡ 0
past [] i e = refl
past (x ∷ xs) zero e = absurd (omega arith)
past (x ∷ xs) (suc i) e = past xs i (omega arith)

absent : (t : List ℕ) (c : ℕ) → 0 ≢ c → nat_eq c c ≡ true → list_all (λ s. not (nat_eq s c)) t ≡ true → (i : ℕ) → slice_index t i ≢ c
absent t c some same none i e = elim (cases_lt i (length t)) [
  | inl lt ↦
      let passes = AllPass-from_list_all (λ s. not (nat_eq s c)) t none i 0 lt in
      let differs = rw (e, same) at passes in cc differs
  | inr ge ↦ some (sym (past t i ge) ∙ e)
]

base64_lacks : (c : ℕ) → 0 ≢ c → 61 ≢ c → nat_eq c c ≡ true → list_all (λ s. not (nat_eq s c)) standard.encode_table ≡ true → (m : List ℕ) → All (λ b. b ≢ c) (base64 m)
base64_lacks c some sign same none m =
    All-append (λ b. b ≢ c) (encode_symbols standard.encode_table m) (replicate (padding_len (length m)) 61)
    (All-from_recursion (λ b. b ≢ c) (encode_symbols standard.encode_table m)
    (symbols_lack standard.encode_table c (absent standard.encode_table c some same none) m))
    (All-replicate (λ b. b ≢ c) (padding_len (length m)) 61 sign)

-- neither of the signs between the parts of a verifier's text
pub base64_lacks_dollar : (m : List ℕ) → All (λ b. b ≢ 36) (base64 m)
base64_lacks_dollar m = base64_lacks 36 (λ e. cc e) (λ e. cc e) refl refl m

pub base64_lacks_colon : (m : List ℕ) → All (λ b. b ≢ 58) (base64 m)
base64_lacks_colon m = base64_lacks 58 (λ e. cc e) (λ e. cc e) refl refl m
