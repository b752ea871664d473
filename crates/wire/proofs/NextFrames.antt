-- What stands at the front of a stream, by what stands in it.
use Rattle.std.proofs.Common.{◌≡◌, ◌<◌, ◌≤◌, ◌+◌, ◌-◌, ◌==◌, ℕ, Bool, true, false, nat_le, nat_lt, List, ◌++◌, length, take, drop, slice_index, refl, sym, ap, ◌∙◌, arith, inl, inr}
use Rattle.std.specs.Str.{is_utf8}
use Rattle.std.proofs.lemmas.Bool.{cases_lt, cases_Bool}
use Rattle.std.proofs.lemmas.Bool.Decides.{nat_tests}
use Rattle.std.proofs.lemmas.List.{take-append-le, drop-append-le, get_or_append_left, length-append, length-drop, length-take-le, take-append-drop}
use Rattle.std.specs.Int.{w32, from_be_bytes}
use Rattle.wire.proofs.FrameNumbers.{number_append}
use Rattle.sql_types.specs.declared.event.Event.{Event}
use Rattle.sql_types.specs.declared.event.Event.TheVariants.{Open, Statement, Close}
use Rattle.wire.specs.Frame.{NextFrame, incomplete, bad, whole, whole_if, is_length, next_frame, frame_of_kind}

-- the length that a frame names, and what it carries
abbrev pub named : List ℕ → ℕ
named bytes = from_be_bytes w32 bytes

abbrev pub carried : List ℕ → ℕ → NextFrame
carried bytes n = frame_of_kind (slice_index bytes 4) (from_be_bytes w32 (drop 5 bytes)) (take (n - 5) (drop 9 bytes)) (4 + n)

-- ---- from the bytes to what stands there

pub incomplete_short : (bytes : List ℕ) → length bytes < 4 → next_frame bytes ≡ incomplete
unfolding next_frame
incomplete_short bytes lt = let t : nat_lt (length bytes) 4 ≡ true = grind (arith, nat_tests) in rw t refl

pub bad_length : (bytes : List ℕ) → 4 ≤ length bytes → is_length (named bytes) ≡ false → next_frame bytes ≡ bad
unfolding next_frame
bad_length bytes le unfit = let t : nat_lt (length bytes) 4 ≡ false = grind (arith, nat_tests) in rw (t, unfit) refl

pub incomplete_rest : (bytes : List ℕ) → 4 ≤ length bytes → is_length (named bytes) ≡ true → length bytes < 4 + named bytes → next_frame bytes ≡ incomplete
unfolding next_frame
incomplete_rest bytes le fits lt =
    let t : nat_lt (length bytes) 4 ≡ false = grind (arith, nat_tests) in
    let u : nat_lt (length bytes) (4 + named bytes) ≡ true = grind (arith, nat_tests) in
    rw (t, fits, u) refl

pub carried_there : (bytes : List ℕ) → 4 ≤ length bytes → is_length (named bytes) ≡ true → 4 + named bytes ≤ length bytes → next_frame bytes ≡ carried bytes (named bytes)
unfolding next_frame
carried_there bytes le fits enough =
    let t : nat_lt (length bytes) 4 ≡ false = grind (arith, nat_tests) in
    let u : nat_lt (length bytes) (4 + named bytes) ≡ false = grind (arith, nat_tests) in
    rw (t, fits, u) refl

pub length_from : (n : ℕ) → is_length n ≡ true → (5 ≤ n) × (n ≤ 131072)
length_from n fits = (grind (arith, nat_tests), grind (arith, nat_tests))

pub length_to : (n : ℕ) → 5 ≤ n → n ≤ 131072 → is_length n ≡ true
length_to n least most = grind (arith, nat_tests)

-- ---- the cases

pub data FrameCase (bytes : List ℕ) : Type 0 where
  short : next_frame bytes ≡ incomplete → FrameCase bytes
  wrong : 4 ≤ length bytes → is_length (named bytes) ≡ false → next_frame bytes ≡ bad → FrameCase bytes
  there : 4 ≤ length bytes → is_length (named bytes) ≡ true → 4 + named bytes ≤ length bytes → next_frame bytes ≡ carried bytes (named bytes) → FrameCase bytes

pub frame_case : (bytes : List ℕ) → FrameCase bytes
frame_case bytes = elim (cases_lt (length bytes) 4) [
  | inl lt ↦ short (incomplete_short bytes lt)
  | inr le ↦ elim (cases_Bool (is_length (named bytes))) [
    | inr unfit ↦ wrong le unfit (bad_length bytes le unfit)
    | inl fits ↦ elim (cases_lt (length bytes) (4 + named bytes)) [
      | inl lt ↦ short (incomplete_rest bytes le fits lt)
      | inr enough ↦ there le fits enough (carried_there bytes le fits enough)
    ]
  ]
]

-- ---- one case is not another

pub incomplete_bad : {f : NextFrame} → f ≡ incomplete → f ≡ bad → ⊥
incomplete_bad p q = let wrong : incomplete ≡ bad = sym p ∙ q in cc

pub incomplete_whole : {f : NextFrame} {e : Event} {n : ℕ} → f ≡ incomplete → f ≡ whole e n → ⊥
incomplete_whole {f} {e} {n} p q = let wrong : incomplete ≡ whole e n = sym p ∙ q in cc

pub bad_whole : {f : NextFrame} {e : Event} {n : ℕ} → f ≡ bad → f ≡ whole e n → ⊥
bad_whole {f} {e} {n} p q = let wrong : bad ≡ whole e n = sym p ∙ q in cc

-- ---- bytes that follow change nothing

more_named : (bytes more : List ℕ) → 4 ≤ length bytes → named (bytes ++ more) ≡ named bytes
more_named bytes more le = number_append bytes more le

more_carried : (bytes more : List ℕ) (n : ℕ) → 5 ≤ n → 4 + n ≤ length bytes → carried (bytes ++ more) n ≡ carried bytes n
more_carried bytes more n least enough =
    let kind : slice_index (bytes ++ more) 4 ≡ slice_index bytes 4 = get_or_append_left bytes more 0 4 (omega arith) in
    let session : from_be_bytes w32 (drop 5 (bytes ++ more)) ≡ from_be_bytes w32 (drop 5 bytes) =
    ap (from_be_bytes w32) (drop-append-le 5 bytes more (omega arith)) ∙ number_append (drop 5 bytes) more (omega (arith, length-drop 5 bytes)) in
    let payload : take (n - 5) (drop 9 (bytes ++ more)) ≡ take (n - 5) (drop 9 bytes) =
    ap (take (n - 5)) (drop-append-le 9 bytes more (omega arith)) ∙ take-append-le (n - 5) (drop 9 bytes) more (omega (arith, length-drop 9 bytes)) in
    ap (λ (k : ℕ). frame_of_kind k (from_be_bytes w32 (drop 5 (bytes ++ more))) (take (n - 5) (drop 9 (bytes ++ more))) (4 + n)) kind
    ∙ ap (λ (s : ℕ). frame_of_kind (slice_index bytes 4) s (take (n - 5) (drop 9 (bytes ++ more))) (4 + n)) session
    ∙ ap (λ (p : List ℕ). frame_of_kind (slice_index bytes 4) (from_be_bytes w32 (drop 5 bytes)) p (4 + n)) payload

pub more_there : (bytes more : List ℕ) → 4 ≤ length bytes → is_length (named bytes) ≡ true → 4 + named bytes ≤ length bytes → next_frame (bytes ++ more) ≡ carried bytes (named bytes)
more_there bytes more le fits enough =
    let same = more_named bytes more le in
    let size = length-append bytes more in
    carried_there (bytes ++ more) (omega arith) (ap is_length same ∙ fits) (omega arith)
    ∙ ap (carried (bytes ++ more)) same ∙ more_carried bytes more (named bytes) (length_from (named bytes) fits).0 enough

pub more_bad : (bytes more : List ℕ) → next_frame bytes ≡ bad → next_frame (bytes ++ more) ≡ bad
more_bad bytes more h = elim (frame_case bytes) [
  | short is ↦ absurd (incomplete_bad is h)
  | wrong le unfit is ↦ bad_length (bytes ++ more) (omega (arith, length-append bytes more)) (ap is_length (more_named bytes more le) ∙ unfit)
  | there le fits enough is ↦ more_there bytes more le fits enough ∙ sym is ∙ h
]

pub more_whole : (bytes more : List ℕ) (e : Event) (n : ℕ) → next_frame bytes ≡ whole e n → next_frame (bytes ++ more) ≡ whole e n
more_whole bytes more e n h = elim (frame_case bytes) [
  | short is ↦ absurd (incomplete_whole is h)
  | wrong le unfit is ↦ absurd (bad_whole is h)
  | there le fits enough is ↦ more_there bytes more le fits enough ∙ sym is ∙ h
]

-- ---- what a whole frame says

pub data KindCase (kind session : ℕ) (payload : List ℕ) (size : ℕ) (e : Event) (n : ℕ) : Type 0 where
  opens : kind ≡ 1 → is_utf8 payload ≡ true → e ≡ Open session payload → n ≡ size → KindCase kind session payload size e n
  asks : kind ≡ 2 → is_utf8 payload ≡ true → e ≡ Statement session payload → n ≡ size → KindCase kind session payload size e n
  closes : kind ≡ 3 → length payload ≡ 0 → e ≡ Close session → n ≡ size → KindCase kind session payload size e n

text_case : (e : Event) (size : ℕ) (t : Bool) (f : Event) (n : ℕ) → whole_if t e size ≡ whole f n → (t ≡ true) × (f ≡ e) × (n ≡ size)
text_case e size true f n h = (refl, cc, cc)
text_case e size false f n h = absurd (bad_whole refl h)

pub kind_case : (kind session : ℕ) (payload : List ℕ) (size : ℕ) (e : Event) (n : ℕ) → frame_of_kind kind session payload size ≡ whole e n → KindCase kind session payload size e n
kind_case kind session payload size e n h = elim (cases_Bool (kind == 1)) [
  | inl one ↦
      let c = text_case (Open session payload) size (is_utf8 payload) e n (rw one at h) in
      opens (grind (arith, nat_tests)) c.0 c.1 c.2
  | inr not_one ↦ elim (cases_Bool (kind == 2)) [
    | inl two ↦
        let c = text_case (Statement session payload) size (is_utf8 payload) e n (rw (not_one, two) at h) in
        asks (grind (arith, nat_tests)) c.0 c.1 c.2
    | inr not_two ↦ elim (cases_Bool (kind == 3)) [
      | inl three ↦
          let c = text_case (Close session) size (nat_le (length payload) 0) e n (rw (not_one, not_two, three) at h) in
          let none : nat_le (length payload) 0 ≡ true = c.0 in
          closes (grind (arith, nat_tests)) (grind (arith, nat_tests)) c.1 c.2
      | inr not_three ↦ absurd (bad_whole refl (rw (not_one, not_two, not_three) at h))
    ]
  ]
]

pub kind_size : (kind session : ℕ) (payload : List ℕ) (size : ℕ) (e : Event) (n : ℕ) → frame_of_kind kind session payload size ≡ whole e n → n ≡ size
kind_size kind session payload size e n h = elim (kind_case kind session payload size e n h) [
  | opens k t is size_is ↦ size_is
  | asks k t is size_is ↦ size_is
  | closes k t is size_is ↦ size_is
]

-- it has at least nine bytes, and they are there
pub whole_size : (bytes : List ℕ) (e : Event) (n : ℕ) → next_frame bytes ≡ whole e n → (9 ≤ n) × (n ≤ length bytes)
whole_size bytes e n h = elim (frame_case bytes) [
  | short is ↦ absurd (incomplete_whole is h)
  | wrong le unfit is ↦ absurd (bad_whole is h)
  | there le fits enough is ↦
      let size = kind_size (slice_index bytes 4) (from_be_bytes w32 (drop 5 bytes)) (take (named bytes - 5) (drop 9 bytes)) (4 + named bytes) e n (sym is ∙ h) in
      let bounds = length_from (named bytes) fits in
      (omega (arith, bounds.0, size), omega (arith, enough, size))
]

-- the bytes of a whole frame alone are read as it
pub whole_alone : (bytes : List ℕ) (e : Event) (n : ℕ) → next_frame bytes ≡ whole e n → next_frame (take n bytes) ≡ whole e n
whole_alone bytes e n h = elim (frame_case bytes) [
  | short is ↦ absurd (incomplete_whole is h)
  | wrong le unfit is ↦ absurd (bad_whole is h)
  | there le fits enough is ↦
      let size : n ≡ 4 + named bytes = kind_size (slice_index bytes 4) (from_be_bytes w32 (drop 5 bytes)) (take (named bytes - 5) (drop 9 bytes)) (4 + named bytes) e n (sym is ∙ h) in
      let count : length (take n bytes) ≡ n = length-take-le n bytes (omega (arith, size, enough)) in
      let bounds = length_from (named bytes) fits in
      let joined : take n bytes ++ drop n bytes ≡ bytes = take-append-drop n bytes in
      let name : named bytes ≡ named (take n bytes) = ap named (sym joined) ∙ more_named (take n bytes) (drop n bytes) (omega (arith, count, size)) in
      let good : is_length (named (take n bytes)) ≡ true = ap is_length (sym name) ∙ fits in
      let short_enough : 4 + named (take n bytes) ≤ length (take n bytes) = omega (arith, count, size, name) in
      let long_enough : 4 ≤ length (take n bytes) = omega (arith, count, size) in
      carried_there (take n bytes) long_enough good short_enough
      ∙ sym (more_there (take n bytes) (drop n bytes) long_enough good short_enough)
      ∙ ap next_frame joined ∙ h
]

-- ---- what is held back is short

payload_there : (t : Bool) (e : Event) (size : ℕ) → whole_if t e size ≡ incomplete → ⊥
payload_there true e size h = incomplete_whole h refl
payload_there false e size h = incomplete_bad h refl

kind_there : (kind session : ℕ) (payload : List ℕ) (size : ℕ) → frame_of_kind kind session payload size ≡ incomplete → ⊥
kind_there kind session payload size h = elim (cases_Bool (kind == 1)) [
  | inl one ↦ payload_there (is_utf8 payload) (Open session payload) size (rw one at h)
  | inr not_one ↦ elim (cases_Bool (kind == 2)) [
    | inl two ↦ payload_there (is_utf8 payload) (Statement session payload) size (rw (not_one, two) at h)
    | inr not_two ↦ elim (cases_Bool (kind == 3)) [
      | inl three ↦ payload_there (nat_le (length payload) 0) (Close session) size (rw (not_one, not_two, three) at h)
      | inr not_three ↦ incomplete_bad (rw (not_one, not_two, not_three) at h) refl
    ]
  ]
]

pub incomplete_bound : (bytes : List ℕ) → next_frame bytes ≡ incomplete → length bytes ≤ 131075
incomplete_bound bytes h = elim (cases_lt (length bytes) 131076) [
  | inl lt ↦ omega (arith, lt)
  | inr le ↦ elim (cases_Bool (is_length (named bytes))) [
    | inr unfit ↦ absurd (incomplete_bad h (bad_length bytes (omega (arith, le)) unfit))
    | inl fits ↦
        let bound = length_from (named bytes) fits in
        let is = carried_there bytes (omega (arith, le)) fits (omega (arith, le, bound.1)) in
        absurd (kind_there (slice_index bytes 4) (from_be_bytes w32 (drop 5 bytes)) (take (named bytes - 5) (drop 9 bytes)) (4 + named bytes) (sym is ∙ h))
  ]
]
