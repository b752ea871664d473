-- Bytes at whose front an event is read begin with the frame of that event.
use Rattle.std.proofs.Common.{◌≡◌, ◌<◌, ◌≤◌, ◌+◌, ◌-◌, ◌^◌, ℕ, zero, suc, List, [], ◌∷◌, ◌++◌, length, take, drop, slice_index, get_or, refl, sym, ap, ◌∙◌, subst, arith}
use Rattle.std.specs.Int.{w32, to_be_bytes, from_be_bytes}
use Rattle.std.proofs.lemmas.List.{length-take-le, take-append-drop, drop-drop, length-drop, get_or-drop}
use Rattle.std.proofs.lemmas.Nat.{be_bytes_4}
use Rattle.sql_types.specs.declared.event.Event.{Event}
use Rattle.wire.specs.Frame.{whole, next_frame, frame, event_frame, HasFrame}
use Rattle.wire.proofs.NextFrames.{named, frame_case, short, wrong, there, KindCase, kind_case, opens, asks, closes, length_from, incomplete_whole, bad_whole}

abbrev AreBytes : List ℕ → Type 0
AreBytes bytes = (i : ℕ) → slice_index bytes i < 256

four_bytes : (a b c d : ℕ) → a < 256 → b < 256 → c < 256 → d < 256 → (i : ℕ) → get_or (a ∷ b ∷ c ∷ d ∷ []) i 0 < 256
four_bytes a b c d p q r s zero = p
four_bytes a b c d p q r s (suc zero) = q
four_bytes a b c d p q r s (suc (suc zero)) = r
four_bytes a b c d p q r s (suc (suc (suc zero))) = s
four_bytes a b c d p q r s (suc (suc (suc (suc i)))) = omega arith

-- the bytes of the number that four bytes make
written_back : (a b c d n : ℕ) → a < 256 → b < 256 → c < 256 → d < 256 → n ≡ from_be_bytes w32 (a ∷ b ∷ c ∷ d ∷ []) → to_be_bytes w32 n ≡ a ∷ b ∷ c ∷ d ∷ []
written_back a b c d n p q r s is = be_bytes_4 (a ∷ b ∷ c ∷ d ∷ []) n refl (four_bytes a b c d p q r s) is

number_fits : (bytes : List ℕ) → AreBytes bytes → from_be_bytes w32 bytes < 2 ^ 32
number_fits bytes small = omega (arith, small 0, small 1, small 2, small 3)

-- a frame that carries m bytes
frame_back : (bytes : List ℕ) (m : ℕ) → AreBytes bytes → named bytes ≡ 5 + m → 9 + m ≤ length bytes
    → bytes ≡ frame (slice_index bytes 4) (from_be_bytes w32 (drop 5 bytes)) (take m (drop 9 bytes)) ++ drop m (drop 9 bytes)
frame_back (a ∷ b ∷ c ∷ d ∷ k ∷ p ∷ q ∷ r ∷ s ∷ xs) m small is le =
    let size : length (take m xs) ≡ m = length-take-le m xs (omega (arith, le)) in
    let n : to_be_bytes w32 (5 + length (take m xs)) ≡ a ∷ b ∷ c ∷ d ∷ [] =
    written_back a b c d (5 + length (take m xs)) (small 0) (small 1) (small 2) (small 3) (ap (λ (x : ℕ). 5 + x) size ∙ sym is) in
    let session : to_be_bytes w32 (from_be_bytes w32 (p ∷ q ∷ r ∷ s ∷ xs)) ≡ p ∷ q ∷ r ∷ s ∷ [] =
    written_back p q r s (from_be_bytes w32 (p ∷ q ∷ r ∷ s ∷ xs)) (small 5) (small 6) (small 7) (small 8) refl in
    sym (ap (λ (w : List ℕ). (w ++ (k ∷ (to_be_bytes w32 (from_be_bytes w32 (p ∷ q ∷ r ∷ s ∷ xs)) ++ take m xs))) ++ drop m xs) n
    ∙ ap (λ (w : List ℕ). (a ∷ b ∷ c ∷ d ∷ k ∷ (w ++ take m xs)) ++ drop m xs) session
    ∙ ap (λ (w : List ℕ). a ∷ b ∷ c ∷ d ∷ k ∷ p ∷ q ∷ r ∷ s ∷ w) (take-append-drop m xs))
frame_back [] m small is le = absurd (omega (arith, le))
frame_back (a ∷ []) m small is le = absurd (omega (arith, le))
frame_back (a ∷ b ∷ []) m small is le = absurd (omega (arith, le))
frame_back (a ∷ b ∷ c ∷ []) m small is le = absurd (omega (arith, le))
frame_back (a ∷ b ∷ c ∷ d ∷ []) m small is le = absurd (omega (arith, le))
frame_back (a ∷ b ∷ c ∷ d ∷ k ∷ []) m small is le = absurd (omega (arith, le))
frame_back (a ∷ b ∷ c ∷ d ∷ k ∷ p ∷ []) m small is le = absurd (omega (arith, le))
frame_back (a ∷ b ∷ c ∷ d ∷ k ∷ p ∷ q ∷ []) m small is le = absurd (omega (arith, le))
frame_back (a ∷ b ∷ c ∷ d ∷ k ∷ p ∷ q ∷ r ∷ []) m small is le = absurd (omega (arith, le))

-- the same, by the length that the frame names
frame_there : (bytes : List ℕ) → AreBytes bytes → 5 ≤ named bytes → 4 + named bytes ≤ length bytes
    → bytes ≡ frame (slice_index bytes 4) (from_be_bytes w32 (drop 5 bytes)) (take (named bytes - 5) (drop 9 bytes)) ++ drop (4 + named bytes) bytes
frame_there bytes small least le =
    let m : ℕ = named bytes - 5 in
    let sum : 9 + m ≡ 4 + named bytes = omega (arith, least) in
    let back = frame_back bytes m small (omega (arith, least)) (omega (arith, least, le)) in
    back ∙ ap (λ (w : List ℕ). frame (slice_index bytes 4) (from_be_bytes w32 (drop 5 bytes)) (take m (drop 9 bytes)) ++ w)
    (drop-drop m 9 bytes ∙ ap (λ (x : ℕ). drop x bytes) sum)

none_left : (xs : List ℕ) → length xs ≡ 0 → xs ≡ []
none_left [] h = refl
none_left (x ∷ xs) h = absurd (omega (arith, h))

bytes_behind : (bytes : List ℕ) → AreBytes bytes → AreBytes (drop 5 bytes)
bytes_behind bytes small i = subst (λ (x : ℕ). x < 256) (sym (get_or-drop 5 bytes i 0)) (small (5 + i))

module _ (bytes : List ℕ) (small : AreBytes bytes) (least : 5 ≤ named bytes) (most : named bytes ≤ 131072) (le : 4 + named bytes ≤ length bytes) where
  abbrev session : ℕ
  session = from_be_bytes w32 (drop 5 bytes)

  abbrev payload : List ℕ
  payload = take (named bytes - 5) (drop 9 bytes)

  session_fits : session < 2 ^ 32
  session_fits = number_fits (drop 5 bytes) (bytes_behind bytes small)

  payload_size : length payload ≡ named bytes - 5
  payload_size = length-take-le (named bytes - 5) (drop 9 bytes) (omega (arith, length-drop 9 bytes, least, le))

  by_kind : (kind : ℕ) → slice_index bytes 4 ≡ kind → bytes ≡ frame kind session payload ++ drop (4 + named bytes) bytes
  by_kind kind is = subst (λ (k : ℕ). bytes ≡ frame k session payload ++ drop (4 + named bytes) bytes) is (frame_there bytes small least le)

  closed : (kind : ℕ) → slice_index bytes 4 ≡ kind → length payload ≡ 0 → bytes ≡ frame kind session [] ++ drop (4 + named bytes) bytes
  closed kind is none = subst (λ (p : List ℕ). bytes ≡ frame kind session p ++ drop (4 + named bytes) bytes) (none_left payload none) (by_kind kind is)

  of_case : (e : Event) (size : ℕ) → KindCase (slice_index bytes 4) session payload (4 + named bytes) e size → (HasFrame e) × (bytes ≡ event_frame e ++ drop size bytes) × (size ≡ length (event_frame e))
  of_case e size case = elim case [
    | opens one text is sized ↦ rw (is, sized) ((session_fits, omega (arith, payload_size, most), text), by_kind 1 one, omega (arith, payload_size, least))
    | asks two text is sized ↦ rw (is, sized) ((session_fits, omega (arith, payload_size, most), text), by_kind 2 two, omega (arith, payload_size, least))
    | closes three none is sized ↦ rw (is, sized) (session_fits, closed 3 three none, omega (arith, payload_size, none, least))
  ]

pub only_frames : (e : Event) (size : ℕ) (bytes : List ℕ) → AreBytes bytes → next_frame bytes ≡ whole e size
    → (HasFrame e) × (bytes ≡ event_frame e ++ drop size bytes) × (size ≡ length (event_frame e))
only_frames e size bytes small h = elim (frame_case bytes) [
  | short is ↦ absurd (incomplete_whole is h)
  | wrong le unfit is ↦ absurd (bad_whole is h)
  | there le fits enough is ↦
      let bound = length_from (named bytes) fits in
      of_case bytes small bound.0 bound.1 enough e size
      (kind_case (slice_index bytes 4) (from_be_bytes w32 (drop 5 bytes)) (take (named bytes - 5) (drop 9 bytes)) (4 + named bytes) e size (sym is ∙ h))
]
