-- Fronts with frames that ask.
use Rattle.std.proofs.Common.{◌≡◌, ◌<◌, ◌≤◌, ◌+◌, ◌-◌, ◌==◌, ◌∙◌, ℕ, Bool, true, false, nat_lt, List, ◌++◌, length, take, drop, slice_index, refl, sym, ap, arith, inl, inr}
use Rattle.std.specs.Int.{w32, from_be_bytes}
use Rattle.std.specs.Str.{is_utf8}
use Rattle.std.proofs.lemmas.Bool.{cases_lt, cases_Bool}
use Rattle.std.proofs.lemmas.Bool.Decides.{nat_tests}
use Rattle.std.proofs.lemmas.List.{take-append-le, drop-append-le, get_or_append_left, length-append, length-drop, length-take-le, take-append-drop}
use Rattle.talks.specs.declared.talk.MessageFront.{MessageFront}
use Rattle.talks.specs.declared.talk.MessageFront.TheVariants.{Whole, Bad}
use Rattle.wire.specs.Frame.{is_length}
use Rattle.wire.proofs.FrameNumbers.{number_append}
use Rattle.wire.proofs.NextFrames.{length_from}
use Rattle.heading_talks.specs.HeadingFrames.{NextHeading, part, asks, other, asked_if, next_heading, taken_if}
use Rattle.heading_talks.specs.HeadingTalks.{front_over}

-- the length that a frame names, and what it asks
abbrev named : List ℕ → ℕ
named bytes = from_be_bytes w32 bytes

abbrev asked : List ℕ → ℕ → NextHeading
asked bytes n = asked_if (is_utf8 (take (n - 5) (drop 9 bytes))) (from_be_bytes w32 (drop 5 bytes)) (take (n - 5) (drop 9 bytes)) (4 + n)

-- ---- from the bytes to what stands there

few : (bytes : List ℕ) → length bytes < 4 → next_heading bytes ≡ part
unfolding next_heading
few bytes lt = let t : nat_lt (length bytes) 4 ≡ true = grind (arith, nat_tests) in rw t refl

unfit_length : (bytes : List ℕ) → 4 ≤ length bytes → is_length (named bytes) ≡ false → next_heading bytes ≡ other
unfolding next_heading
unfit_length bytes le unfit = let t : nat_lt (length bytes) 4 ≡ false = grind (arith, nat_tests) in rw (t, unfit) refl

no_kind : (bytes : List ℕ) → 4 ≤ length bytes → is_length (named bytes) ≡ true → length bytes < 5 → next_heading bytes ≡ part
unfolding next_heading
no_kind bytes le fits lt =
    let t : nat_lt (length bytes) 4 ≡ false = grind (arith, nat_tests) in
    let u : nat_lt (length bytes) 5 ≡ true = grind (arith, nat_tests) in
    rw (t, fits, u) refl

other_kind : (bytes : List ℕ) → 5 ≤ length bytes → is_length (named bytes) ≡ true → (slice_index bytes 4 == 8) ≡ false → next_heading bytes ≡ other
unfolding next_heading
other_kind bytes le fits unlike =
    let t : nat_lt (length bytes) 4 ≡ false = grind (arith, nat_tests) in
    let u : nat_lt (length bytes) 5 ≡ false = grind (arith, nat_tests) in
    rw (t, fits, u, unlike) refl

a_part : (bytes : List ℕ) → 5 ≤ length bytes → is_length (named bytes) ≡ true → (slice_index bytes 4 == 8) ≡ true → length bytes < 4 + named bytes → next_heading bytes ≡ part
unfolding next_heading
a_part bytes le fits like lt =
    let t : nat_lt (length bytes) 4 ≡ false = grind (arith, nat_tests) in
    let u : nat_lt (length bytes) 5 ≡ false = grind (arith, nat_tests) in
    let v : nat_lt (length bytes) (4 + named bytes) ≡ true = grind (arith, nat_tests) in
    rw (t, fits, u, like, v) refl

all_there : (bytes : List ℕ) → 5 ≤ length bytes → is_length (named bytes) ≡ true → (slice_index bytes 4 == 8) ≡ true → 4 + named bytes ≤ length bytes
    → next_heading bytes ≡ asked bytes (named bytes)
unfolding next_heading
all_there bytes le fits like enough =
    let t : nat_lt (length bytes) 4 ≡ false = grind (arith, nat_tests) in
    let u : nat_lt (length bytes) 5 ≡ false = grind (arith, nat_tests) in
    let v : nat_lt (length bytes) (4 + named bytes) ≡ false = grind (arith, nat_tests) in
    rw (t, fits, u, like, v) refl

-- ---- the cases

pub data HeadingCase (bytes : List ℕ) : Type 0 where
  waits : next_heading bytes ≡ part → HeadingCase bytes
  unfit : 4 ≤ length bytes → is_length (named bytes) ≡ false → next_heading bytes ≡ other → HeadingCase bytes
  unlike : 5 ≤ length bytes → is_length (named bytes) ≡ true → (slice_index bytes 4 == 8) ≡ false → next_heading bytes ≡ other → HeadingCase bytes
  there : 5 ≤ length bytes → is_length (named bytes) ≡ true → (slice_index bytes 4 == 8) ≡ true → 4 + named bytes ≤ length bytes
      → next_heading bytes ≡ asked bytes (named bytes) → HeadingCase bytes

by_kind : (bytes : List ℕ) → 5 ≤ length bytes → is_length (named bytes) ≡ true → HeadingCase bytes
by_kind bytes le fits = elim (cases_Bool (slice_index bytes 4 == 8)) [
  | inr not_so ↦ unlike le fits not_so (other_kind bytes le fits not_so)
  | inl like ↦ elim (cases_lt (length bytes) (4 + named bytes)) [
    | inl lt ↦ waits (a_part bytes le fits like lt)
    | inr enough ↦ there le fits like enough (all_there bytes le fits like enough)
  ]
]

pub heading_case : (bytes : List ℕ) → HeadingCase bytes
heading_case bytes = elim (cases_lt (length bytes) 4) [
  | inl lt ↦ waits (few bytes lt)
  | inr le ↦ elim (cases_Bool (is_length (named bytes))) [
    | inr unfits ↦ unfit le unfits (unfit_length bytes le unfits)
    | inl fits ↦ elim (cases_lt (length bytes) 5) [
      | inl lt ↦ waits (no_kind bytes le fits lt)
      | inr enough ↦ by_kind bytes enough fits
    ]
  ]
]

-- ---- bytes that follow change nothing

pub part_asks : {session size : ℕ} {text : List ℕ} {X : Type 0} → part ≡ asks session text size → X
part_asks h = cc

part_other : {X : Type 0} → part ≡ other → X
part_other h = cc

pub other_asks : {session size : ℕ} {text : List ℕ} {X : Type 0} → other ≡ asks session text size → X
other_asks h = cc

more_named : (bytes more : List ℕ) → 4 ≤ length bytes → named (bytes ++ more) ≡ named bytes
more_named bytes more le = number_append bytes more le

more_kind : (bytes more : List ℕ) → 5 ≤ length bytes → slice_index (bytes ++ more) 4 ≡ slice_index bytes 4
more_kind bytes more le = get_or_append_left bytes more 0 4 (omega arith)

more_asked : (bytes more : List ℕ) (n : ℕ) → 5 ≤ n → 4 + n ≤ length bytes → asked (bytes ++ more) n ≡ asked bytes n
more_asked bytes more n least enough =
    let session : from_be_bytes w32 (drop 5 (bytes ++ more)) ≡ from_be_bytes w32 (drop 5 bytes) =
    ap (from_be_bytes w32) (drop-append-le 5 bytes more (omega arith)) ∙ number_append (drop 5 bytes) more (omega (arith, length-drop 5 bytes)) in
    let payload : take (n - 5) (drop 9 (bytes ++ more)) ≡ take (n - 5) (drop 9 bytes) =
    ap (take (n - 5)) (drop-append-le 9 bytes more (omega arith)) ∙ take-append-le (n - 5) (drop 9 bytes) more (omega (arith, length-drop 9 bytes)) in
    ap (λ (s : ℕ). asked_if (is_utf8 (take (n - 5) (drop 9 (bytes ++ more)))) s (take (n - 5) (drop 9 (bytes ++ more))) (4 + n)) session
    ∙ ap (λ (p : List ℕ). asked_if (is_utf8 p) (from_be_bytes w32 (drop 5 bytes)) p (4 + n)) payload

more_there : (bytes more : List ℕ) → 5 ≤ length bytes → is_length (named bytes) ≡ true → (slice_index bytes 4 == 8) ≡ true → 4 + named bytes ≤ length bytes
    → next_heading (bytes ++ more) ≡ asked bytes (named bytes)
more_there bytes more le fits like enough =
    let same = more_named bytes more (omega arith) in
    let size = length-append bytes more in
    all_there (bytes ++ more) (omega arith) (ap is_length same ∙ fits) (ap (λ (k : ℕ). k == 8) (more_kind bytes more le) ∙ like) (omega arith)
    ∙ ap (asked (bytes ++ more)) same ∙ more_asked bytes more (named bytes) (length_from (named bytes) fits).0 enough

pub more_other : (bytes more : List ℕ) → next_heading bytes ≡ other → next_heading (bytes ++ more) ≡ other
more_other bytes more h = elim (heading_case bytes) [
  | waits is ↦ part_other (sym is ∙ h)
  | unfit le unfits is ↦ unfit_length (bytes ++ more) (omega (arith, length-append bytes more)) (ap is_length (more_named bytes more le) ∙ unfits)
  | unlike le fits not_so is ↦
      other_kind (bytes ++ more) (omega (arith, length-append bytes more)) (ap is_length (more_named bytes more (omega (arith, le))) ∙ fits)
      (ap (λ (k : ℕ). k == 8) (more_kind bytes more le) ∙ not_so)
  | there le fits like enough is ↦ more_there bytes more le fits like enough ∙ sym is ∙ h
]

pub more_asks : (bytes more : List ℕ) (session : ℕ) (text : List ℕ) (n : ℕ) → next_heading bytes ≡ asks session text n → next_heading (bytes ++ more) ≡ asks session text n
more_asks bytes more session text n h = elim (heading_case bytes) [
  | waits is ↦ part_asks (sym is ∙ h)
  | unfit le unfits is ↦ other_asks (sym is ∙ h)
  | unlike le fits not_so is ↦ other_asks (sym is ∙ h)
  | there le fits like enough is ↦ more_there bytes more le fits like enough ∙ sym is ∙ h
]

asked_size : (b : Bool) (s : ℕ) (p : List ℕ) (size session : ℕ) (text : List ℕ) (n : ℕ) → asked_if b s p size ≡ asks session text n → n ≡ size
asked_size true s p size session text n h = cc
asked_size false s p size session text n h = other_asks h

-- it has at least nine bytes, and they are there
pub asks_size : (bytes : List ℕ) (session : ℕ) (text : List ℕ) (n : ℕ) → next_heading bytes ≡ asks session text n → (9 ≤ n) × (n ≤ length bytes)
asks_size bytes session text n h = elim (heading_case bytes) [
  | waits is ↦ part_asks (sym is ∙ h)
  | unfit le unfits is ↦ other_asks (sym is ∙ h)
  | unlike le fits not_so is ↦ other_asks (sym is ∙ h)
  | there le fits like enough is ↦
      let size = asked_size (is_utf8 (take (named bytes - 5) (drop 9 bytes))) (from_be_bytes w32 (drop 5 bytes)) (take (named bytes - 5) (drop 9 bytes)) (4 + named bytes) session text n (sym is ∙ h) in
      let bounds = length_from (named bytes) fits in
      (omega (arith, bounds.0, size), omega (arith, enough, size))
]

-- its bytes alone are read as it
pub asks_alone : (bytes : List ℕ) (session : ℕ) (text : List ℕ) (n : ℕ) → next_heading bytes ≡ asks session text n → next_heading (take n bytes) ≡ asks session text n
asks_alone bytes session text n h = elim (heading_case bytes) [
  | waits is ↦ part_asks (sym is ∙ h)
  | unfit le unfits is ↦ other_asks (sym is ∙ h)
  | unlike le fits not_so is ↦ other_asks (sym is ∙ h)
  | there le fits like enough is ↦
      let size : n ≡ 4 + named bytes = asked_size (is_utf8 (take (named bytes - 5) (drop 9 bytes))) (from_be_bytes w32 (drop 5 bytes)) (take (named bytes - 5) (drop 9 bytes)) (4 + named bytes) session text n (sym is ∙ h) in
      let count : length (take n bytes) ≡ n = length-take-le n bytes (omega (arith, size, enough)) in
      let bounds = length_from (named bytes) fits in
      let joined : take n bytes ++ drop n bytes ≡ bytes = take-append-drop n bytes in
      let long_enough : 5 ≤ length (take n bytes) = omega (arith, count, size, bounds.0) in
      let name : named bytes ≡ named (take n bytes) = ap named (sym joined) ∙ more_named (take n bytes) (drop n bytes) (omega (arith, long_enough)) in
      let kind : slice_index bytes 4 ≡ slice_index (take n bytes) 4 = ap (λ (l : List ℕ). slice_index l 4) (sym joined) ∙ more_kind (take n bytes) (drop n bytes) long_enough in
      let good : is_length (named (take n bytes)) ≡ true = ap is_length (sym name) ∙ fits in
      let alike : (slice_index (take n bytes) 4 == 8) ≡ true = ap (λ (m : ℕ). m == 8) (sym kind) ∙ like in
      let short_enough : 4 + named (take n bytes) ≤ length (take n bytes) = omega (arith, count, size, name) in
      all_there (take n bytes) long_enough good alike short_enough
      ∙ sym (more_there (take n bytes) (drop n bytes) long_enough good alike short_enough)
      ∙ ap next_heading joined ∙ h
]

-- ---- over the front of the conversation inside

front_more_there : (bytes more : List ℕ) (n : ℕ) (here beyond : MessageFront) → (here ≡ Whole n → (n ≤ length bytes) × (beyond ≡ Whole n))
    → front_over (next_heading bytes) here ≡ Whole n → (n ≤ length bytes) × (front_over (next_heading (bytes ++ more)) beyond ≡ Whole n)
front_more_there bytes more n here beyond inside is = go (next_heading bytes) refl is
  where
    go : (f : NextHeading) → next_heading bytes ≡ f → front_over f here ≡ Whole n → (n ≤ length bytes) × (front_over (next_heading (bytes ++ more)) beyond ≡ Whole n)
    go part at it = cc
    go (asks session text size) at it =
        let same : size ≡ n = cc in
        rw (← same) ((asks_size bytes session text size at).1, ap (λ (f : NextHeading). front_over f beyond) (more_asks bytes more session text size at))
    go other at it = let both = inside it in (both.0, ap (λ (f : NextHeading). front_over f beyond) (more_other bytes more at) ∙ both.1)

bad_more_there : (bytes more : List ℕ) (here beyond : MessageFront) → (here ≡ Bad → beyond ≡ Bad)
    → front_over (next_heading bytes) here ≡ Bad → front_over (next_heading (bytes ++ more)) beyond ≡ Bad
bad_more_there bytes more here beyond inside is = go (next_heading bytes) refl is
  where
    go : (f : NextHeading) → next_heading bytes ≡ f → front_over f here ≡ Bad → front_over (next_heading (bytes ++ more)) beyond ≡ Bad
    go part at it = cc
    go (asks session text size) at it = cc
    go other at it = ap (λ (f : NextHeading). front_over f beyond) (more_other bytes more at) ∙ inside it

pub front_more_over : (may_ask : Bool) (bytes more : List ℕ) (n : ℕ) (here beyond : MessageFront) → (here ≡ Whole n → (n ≤ length bytes) × (beyond ≡ Whole n))
    → front_over (taken_if may_ask (next_heading bytes)) here ≡ Whole n → (n ≤ length bytes) × (front_over (taken_if may_ask (next_heading (bytes ++ more))) beyond ≡ Whole n)
front_more_over true bytes more n here beyond inside is = front_more_there bytes more n here beyond inside is
front_more_over false bytes more n here beyond inside is = inside is

pub bad_more_over : (may_ask : Bool) (bytes more : List ℕ) (here beyond : MessageFront) → (here ≡ Bad → beyond ≡ Bad)
    → front_over (taken_if may_ask (next_heading bytes)) here ≡ Bad → front_over (taken_if may_ask (next_heading (bytes ++ more))) beyond ≡ Bad
bad_more_over true bytes more here beyond inside is = bad_more_there bytes more here beyond inside is
bad_more_over false bytes more here beyond inside is = inside is
