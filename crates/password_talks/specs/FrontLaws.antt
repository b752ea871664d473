-- Fronts of the frames that a client may send before it is admitted.
use Rattle.std.proofs.Common.{◌≡◌, ◌≤◌, ◌+◌, ℕ, Bool, true, false, nat_lt, List, ◌++◌, length, arith, inl, inr}
use Rattle.std.specs.Int.{w32, from_be_bytes}
use Rattle.std.proofs.lemmas.Bool.{cases_lt, cases_Bool}
use Rattle.std.proofs.lemmas.Bool.Decides.{nat_tests}
use Rattle.std.proofs.lemmas.List.{length-append}
use Rattle.talks.specs.declared.talk.MessageFront.{MessageFront}
use Rattle.talks.specs.declared.talk.MessageFront.TheVariants.{Nothing, Whole, Bad}
use Rattle.wire.proofs.FrameNumbers.{number_append}
use Rattle.password_talks.specs.EarlyFrames.{early_front, front_of_length, is_early_length}
use Rattle.password_talks.specs.PasswordTalks.{front_if}

-- ---- by the length that is named

length_more : (m there more n : ℕ) → front_of_length m there ≡ Whole n → (n ≤ there) × (front_of_length m (there + more) ≡ Whole n)
length_more m there more n h = elim (cases_Bool (is_early_length m)) [
  | inr unfit ↦ let wrong : Bad ≡ Whole n = rw unfit at h in cc
  | inl fits ↦ elim (cases_lt there (4 + m)) [
    | inl lt ↦
        let t : nat_lt there (4 + m) ≡ true = grind (arith, nat_tests) in
        let wrong : Nothing ≡ Whole n = rw (fits, t) at h in cc
    | inr le ↦
        let t : nat_lt there (4 + m) ≡ false = grind (arith, nat_tests) in
        let u : nat_lt (there + more) (4 + m) ≡ false = grind (arith, nat_tests) in
        let is : Whole (4 + m) ≡ Whole n = rw (fits, t) at h in
        let size : 4 + m ≡ n = cc in
        (omega (arith, size), rw (fits, u) is)
  ]
]

length_bad : (m there more : ℕ) → front_of_length m there ≡ Bad → front_of_length m (there + more) ≡ Bad
length_bad m there more h = elim (cases_Bool (is_early_length m)) [
  | inr unfit ↦ rw unfit
  | inl fits ↦ elim (cases_lt there (4 + m)) [
    | inl lt ↦
        let t : nat_lt there (4 + m) ≡ true = grind (arith, nat_tests) in
        let wrong : Nothing ≡ Bad = rw (fits, t) at h in cc
    | inr le ↦
        let t : nat_lt there (4 + m) ≡ false = grind (arith, nat_tests) in
        let wrong : Whole (4 + m) ≡ Bad = rw (fits, t) at h in cc
  ]
]

-- ---- by the bytes

pub early_more : (bytes more : List ℕ) (n : ℕ) → early_front bytes ≡ Whole n → (n ≤ length bytes) × (early_front (bytes ++ more) ≡ Whole n)
unfolding early_front
early_more bytes more n h = elim (cases_lt (length bytes) 4) [
  | inl lt ↦
      let t : nat_lt (length bytes) 4 ≡ true = grind (arith, nat_tests) in
      let wrong : Nothing ≡ Whole n = rw t at h in cc
  | inr le ↦
      let t : nat_lt (length bytes) 4 ≡ false = grind (arith, nat_tests) in
      let size = length-append bytes more in
      let u : nat_lt (length (bytes ++ more)) 4 ≡ false = grind (arith, nat_tests) in
      let is : front_of_length (from_be_bytes w32 bytes) (length bytes) ≡ Whole n = rw t at h in
      let it = length_more (from_be_bytes w32 bytes) (length bytes) (length more) n is in
      (it.0, rw (u, number_append bytes more le, size) it.1)
]

pub early_bad : (bytes more : List ℕ) → early_front bytes ≡ Bad → early_front (bytes ++ more) ≡ Bad
unfolding early_front
early_bad bytes more h = elim (cases_lt (length bytes) 4) [
  | inl lt ↦
      let t : nat_lt (length bytes) 4 ≡ true = grind (arith, nat_tests) in
      let wrong : Nothing ≡ Bad = rw t at h in cc
  | inr le ↦
      let t : nat_lt (length bytes) 4 ≡ false = grind (arith, nat_tests) in
      let size = length-append bytes more in
      let u : nat_lt (length (bytes ++ more)) 4 ≡ false = grind (arith, nat_tests) in
      let is : front_of_length (from_be_bytes w32 bytes) (length bytes) ≡ Bad = rw t at h in
      rw (u, number_append bytes more le, size) (length_bad (from_be_bytes w32 bytes) (length bytes) (length more) is)
]

-- ---- before the password was shown, and after

pub front_more_if : (b : Bool) (here there : MessageFront) (bytes more : List ℕ) (n : ℕ) → (here ≡ Whole n → (n ≤ length bytes) × (there ≡ Whole n))
    → front_if b here (early_front bytes) ≡ Whole n → (n ≤ length bytes) × (front_if b there (early_front (bytes ++ more)) ≡ Whole n)
front_more_if true here there bytes more n inside is = inside is
front_more_if false here there bytes more n inside is = early_more bytes more n is

pub bad_more_if : (b : Bool) (here there : MessageFront) (bytes more : List ℕ) → (here ≡ Bad → there ≡ Bad)
    → front_if b here (early_front bytes) ≡ Bad → front_if b there (early_front (bytes ++ more)) ≡ Bad
bad_more_if true here there bytes more inside is = inside is
bad_more_if false here there bytes more inside is = early_bad bytes more is
