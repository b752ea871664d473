-- What stands at the front of the bytes of a connection, by what stands in them.
use Rattle.std.proofs.Common.{◌≡◌, ℕ, suc, ◌+◌, ◌^◌, ◌<◌, ◌≤◌, ◌&&◌, true, false, leb, ltb, List, [], ◌∷◌, ◌++◌, length, slice_index, Option, Some, None, refl, sym, ap, subst, ◌∙◌, append_assoc, arith, inl, inr}
use Rattle.std.specs.Int.{w32, from_be_bytes}
use Rattle.std.proofs.lemmas.Bool.{cases_lt, cases_Bool}
use Rattle.std.proofs.lemmas.Bool.Decides.{nat_tests}
use Rattle.std.proofs.lemmas.List.{get_or_append_left, length-append}
use Rattle.std.proofs.lemmas.Nat.{from_be_bytes-to_be_bytes_4}
use Rattle.postgres_messages.specs.declared.front.StreamFront.{StreamFront}
use Rattle.postgres_messages.specs.declared.front.StreamFront.TheVariants.{Nothing, Whole, Bad}
use Rattle.postgres_messages.specs.declared.kind.MessageKind.{MessageKind}
use Rattle.postgres_messages.specs.Kind.{byte_of, kind_of}
use Rattle.postgres_messages.specs.Fields.{int32, packet}
use Rattle.postgres_messages.specs.Front.{front_behind, front_of_kind, message_front, start_front}
use Rattle.postgres_messages.specs.Frontend.{TheMessage, the_kind, the_body, message_bytes, SpellsMessage}
use Rattle.postgres_messages.specs.Start.{TheStart, code_of, start_body, start_bytes, SpellsStart}
use Rattle.postgres_messages.proofs.Whole.{kind_again}

-- bytes behind the four of a number change nothing
number_append : (bytes more : List ℕ) → 4 ≤ length bytes → from_be_bytes w32 (bytes ++ more) ≡ from_be_bytes w32 bytes
number_append bytes more le =
    let a : slice_index (bytes ++ more) 0 ≡ slice_index bytes 0 = get_or_append_left bytes more 0 0 (omega arith) in
    let b : slice_index (bytes ++ more) 1 ≡ slice_index bytes 1 = get_or_append_left bytes more 0 1 (omega arith) in
    let c : slice_index (bytes ++ more) 2 ≡ slice_index bytes 2 = get_or_append_left bytes more 0 2 (omega arith) in
    let d : slice_index (bytes ++ more) 3 ≡ slice_index bytes 3 = get_or_append_left bytes more 0 3 (omega arith) in
    rw (a, b, c, d) refl

-- ---- the cases of what stands behind the first bytes

pub data FrontCase (first least most : ℕ) (bytes : List ℕ) : Type 0 where
  short : length bytes < 4 → front_behind first least most bytes ≡ Nothing → FrontCase first least most bytes
  unfit : 4 ≤ length bytes → (leb least (from_be_bytes w32 bytes) && leb (from_be_bytes w32 bytes) most) ≡ false → front_behind first least most bytes ≡ Bad → FrontCase first least most bytes
  waits : 4 ≤ length bytes → length bytes < from_be_bytes w32 bytes → from_be_bytes w32 bytes ≤ most → front_behind first least most bytes ≡ Nothing → FrontCase first least most bytes
  there : 4 ≤ length bytes → least ≤ from_be_bytes w32 bytes → from_be_bytes w32 bytes ≤ most → from_be_bytes w32 bytes ≤ length bytes
      → front_behind first least most bytes ≡ Whole (first + from_be_bytes w32 bytes) → FrontCase first least most bytes

is_short : (first least most : ℕ) (bytes : List ℕ) → length bytes < 4 → front_behind first least most bytes ≡ Nothing
unfolding front_behind
is_short first least most bytes lt = let t : ltb (length bytes) 4 ≡ true = grind (arith, nat_tests) in rw t refl

is_unfit : (first least most : ℕ) (bytes : List ℕ) → 4 ≤ length bytes → (leb least (from_be_bytes w32 bytes) && leb (from_be_bytes w32 bytes) most) ≡ false → front_behind first least most bytes ≡ Bad
unfolding front_behind
is_unfit first least most bytes le e = let t : ltb (length bytes) 4 ≡ false = grind (arith, nat_tests) in rw (t, e) refl

waits_on : (first least most : ℕ) (bytes : List ℕ) → 4 ≤ length bytes → (leb least (from_be_bytes w32 bytes) && leb (from_be_bytes w32 bytes) most) ≡ true → length bytes < from_be_bytes w32 bytes → front_behind first least most bytes ≡ Nothing
unfolding front_behind
waits_on first least most bytes le e lt =
    let t : ltb (length bytes) 4 ≡ false = grind (arith, nat_tests) in
    let u : ltb (length bytes) (from_be_bytes w32 bytes) ≡ true = grind (arith, nat_tests) in
    rw (t, e, u) refl

is_there : (first least most : ℕ) (bytes : List ℕ) → 4 ≤ length bytes → (leb least (from_be_bytes w32 bytes) && leb (from_be_bytes w32 bytes) most) ≡ true → from_be_bytes w32 bytes ≤ length bytes
    → front_behind first least most bytes ≡ Whole (first + from_be_bytes w32 bytes)
unfolding front_behind
is_there first least most bytes le e enough =
    let t : ltb (length bytes) 4 ≡ false = grind (arith, nat_tests) in
    let u : ltb (length bytes) (from_be_bytes w32 bytes) ≡ false = grind (arith, nat_tests) in
    rw (t, e, u) refl

in_range : (least n most : ℕ) → (leb least n && leb n most) ≡ true → (least ≤ n) × (n ≤ most)
in_range least n most e = (grind (arith, nat_tests), grind (arith, nat_tests))

has_range : (least n most : ℕ) → least ≤ n → n ≤ most → (leb least n && leb n most) ≡ true
has_range least n most a b = grind (arith, nat_tests)

front_case : (first least most : ℕ) (bytes : List ℕ) → FrontCase first least most bytes
front_case first least most bytes = elim (cases_lt (length bytes) 4) [
  | inl lt ↦ short lt (is_short first least most bytes lt)
  | inr le ↦ elim (cases_Bool (leb least (from_be_bytes w32 bytes) && leb (from_be_bytes w32 bytes) most)) [
    | inr out ↦ unfit le out (is_unfit first least most bytes le out)
    | inl fits ↦ elim (cases_lt (length bytes) (from_be_bytes w32 bytes)) [
      | inl lt ↦ waits le lt (in_range least (from_be_bytes w32 bytes) most fits).1 (waits_on first least most bytes le fits lt)
      | inr enough ↦ there le (in_range least (from_be_bytes w32 bytes) most fits).0 (in_range least (from_be_bytes w32 bytes) most fits).1 enough (is_there first least most bytes le fits enough)
    ]
  ]
]

-- ---- one case is not another

nothing_bad : {f : StreamFront} → f ≡ Nothing → f ≡ Bad → ⊥
nothing_bad p q = let wrong : Nothing ≡ Bad = sym p ∙ q in cc

nothing_whole : {f : StreamFront} {n : ℕ} → f ≡ Nothing → f ≡ Whole n → ⊥
nothing_whole {f} {n} p q = let wrong : Nothing ≡ Whole n = sym p ∙ q in cc

bad_whole : {f : StreamFront} {n : ℕ} → f ≡ Bad → f ≡ Whole n → ⊥
bad_whole {f} {n} p q = let wrong : Bad ≡ Whole n = sym p ∙ q in cc

-- ---- bytes that follow change nothing

behind_more : (first least most : ℕ) (bytes more : List ℕ) (n : ℕ) → front_behind first least most bytes ≡ Whole n → front_behind first least most (bytes ++ more) ≡ Whole n
behind_more first least most bytes more n e = elim (front_case first least most bytes) [
  | short lt is ↦ absurd (nothing_whole is e)
  | unfit le out is ↦ absurd (bad_whole is e)
  | waits le lt most is ↦ absurd (nothing_whole is e)
  | there le low high enough is ↦
      let same = number_append bytes more le in
      let range : (leb least (from_be_bytes w32 (bytes ++ more)) && leb (from_be_bytes w32 (bytes ++ more)) most) ≡ true = ap (λ (k : ℕ). leb least k && leb k most) same ∙ has_range least (from_be_bytes w32 bytes) most low high in
      is_there first least most (bytes ++ more) (omega (arith, length-append bytes more)) range (omega (arith, length-append bytes more, same))
      ∙ ap (λ (k : ℕ). Whole (first + k)) same ∙ sym is ∙ e
]

behind_bad : (first least most : ℕ) (bytes more : List ℕ) → front_behind first least most bytes ≡ Bad → front_behind first least most (bytes ++ more) ≡ Bad
behind_bad first least most bytes more e = elim (front_case first least most bytes) [
  | short lt is ↦ absurd (nothing_bad is e)
  | unfit le out is ↦
      let same = number_append bytes more le in
      is_unfit first least most (bytes ++ more) (omega (arith, length-append bytes more)) (ap (λ (k : ℕ). leb least k && leb k most) same ∙ out)
  | waits le lt most is ↦ absurd (nothing_bad is e)
  | there le low high enough is ↦ absurd (bad_whole e is)
]

pub front_more : (limit : ℕ) (bytes more : List ℕ) (n : ℕ) → message_front limit bytes ≡ Whole n → message_front limit (bytes ++ more) ≡ Whole n
front_more limit [] more n e = absurd cc
front_more limit (byte ∷ rest) more n e = by_kind (kind_of byte) e
  where
    by_kind : (k : Option MessageKind) → front_of_kind k limit rest ≡ Whole n → front_of_kind k limit (rest ++ more) ≡ Whole n
    by_kind None h = absurd cc
    by_kind (Some k) h = behind_more 1 4 limit rest more n h

pub bad_more : (limit : ℕ) (bytes more : List ℕ) → message_front limit bytes ≡ Bad → message_front limit (bytes ++ more) ≡ Bad
bad_more limit [] more e = absurd cc
bad_more limit (byte ∷ rest) more e = by_kind (kind_of byte) e
  where
    by_kind : (k : Option MessageKind) → front_of_kind k limit rest ≡ Bad → front_of_kind k limit (rest ++ more) ≡ Bad
    by_kind None h = refl
    by_kind (Some k) h = behind_bad 1 4 limit rest more h

pub start_more : (bytes more : List ℕ) (n : ℕ) → start_front bytes ≡ Whole n → start_front (bytes ++ more) ≡ Whole n
start_more bytes more n e = behind_more 0 8 10000 bytes more n e

pub start_bad : (bytes more : List ℕ) → start_front bytes ≡ Bad → start_front (bytes ++ more) ≡ Bad
start_bad bytes more e = behind_bad 0 8 10000 bytes more e

-- ---- sizes

whole_is : (a b : ℕ) → Whole a ≡ Whole b → a ≡ b
whole_is a b e = cc

behind_within : (first least most : ℕ) (bytes : List ℕ) (n : ℕ) → front_behind first least most bytes ≡ Whole n → (first + least ≤ n) × (n ≤ first + length bytes) × (n ≤ first + most)
behind_within first least most bytes n e = elim (front_case first least most bytes) [
  | short lt is ↦ absurd (nothing_whole is e)
  | unfit le out is ↦ absurd (bad_whole is e)
  | waits le lt most is ↦ absurd (nothing_whole is e)
  | there le low high enough is ↦
      let same : first + from_be_bytes w32 bytes ≡ n = whole_is (first + from_be_bytes w32 bytes) n (sym is ∙ e) in
      (omega (arith, same), omega (arith, same), omega (arith, same))
]

behind_kept : (first least most : ℕ) (bytes : List ℕ) → 4 ≤ most → front_behind first least most bytes ≡ Nothing → length bytes < most
behind_kept first least most bytes four e = elim (front_case first least most bytes) [
  | short lt is ↦ omega arith
  | unfit le out is ↦ absurd (nothing_bad e is)
  | waits le lt high is ↦ omega arith
  | there le low high enough is ↦ absurd (nothing_whole e is)
]

pub front_within : (limit : ℕ) (bytes : List ℕ) (n : ℕ) → message_front limit bytes ≡ Whole n → (5 ≤ n) × (n ≤ length bytes) × (n ≤ 1 + limit)
front_within limit [] n e = absurd cc
front_within limit (byte ∷ rest) n e = by_kind (kind_of byte) e
  where
    by_kind : (k : Option MessageKind) → front_of_kind k limit rest ≡ Whole n → (5 ≤ n) × (n ≤ suc (length rest)) × (n ≤ 1 + limit)
    by_kind None h = absurd cc
    by_kind (Some k) h = let w = behind_within 1 4 limit rest n h in (omega (arith, w.0), omega (arith, w.1), w.2)

pub front_kept : (limit : ℕ) (bytes : List ℕ) → 4 ≤ limit → message_front limit bytes ≡ Nothing → length bytes ≤ limit
front_kept limit [] four e = omega arith
front_kept limit (byte ∷ rest) four e = by_kind (kind_of byte) e
  where
    by_kind : (k : Option MessageKind) → front_of_kind k limit rest ≡ Nothing → suc (length rest) ≤ limit
    by_kind None h = absurd cc
    by_kind (Some k) h = let w = behind_kept 1 4 limit rest four h in omega (arith, w)

pub start_within : (bytes : List ℕ) (n : ℕ) → start_front bytes ≡ Whole n → (8 ≤ n) × (n ≤ length bytes) × (n ≤ 10000)
start_within bytes n e = let w = behind_within 0 8 10000 bytes n e in (omega (arith, w.0), omega (arith, w.1), omega (arith, w.2))

pub start_kept : (bytes : List ℕ) → start_front bytes ≡ Nothing → length bytes < 10000
start_kept bytes e = behind_kept 0 8 10000 bytes (omega arith) e

-- ---- each message is found

number_there : (n : ℕ) (rest : List ℕ) → n < 2 ^ 32 → from_be_bytes w32 (int32 n ++ rest) ≡ n
number_there n rest lt = number_append (int32 n) rest (omega arith) ∙ from_be_bytes-to_be_bytes_4 n lt

named_there : (first least most n : ℕ) (body : List ℕ) → n < 2 ^ 32 → least ≤ n → n ≤ most → n ≤ 4 + length body → front_behind first least most (int32 n ++ body) ≡ Whole (first + n)
named_there first least most n body lt low high enough =
    let same = number_there n body lt in
    let size : length (int32 n ++ body) ≡ 4 + length body = length-append (int32 n) body in
    let range : (leb least (from_be_bytes w32 (int32 n ++ body)) && leb (from_be_bytes w32 (int32 n ++ body)) most) ≡ true = ap (λ (k : ℕ). leb least k && leb k most) same ∙ has_range least n most low high in
    is_there first least most (int32 n ++ body) (omega (arith, size)) range (omega (arith, size, same)) ∙ ap (λ (k : ℕ). Whole (first + k)) same

pub packet_found : (limit : ℕ) (k : MessageKind) (body rest : List ℕ) → limit < 2 ^ 32 → 4 + length body ≤ limit → message_front limit (packet (byte_of k) body ++ rest) ≡ Whole (length (packet (byte_of k) body))
packet_found limit k body rest small fits =
    let size : length (int32 (4 + length body) ++ body) ≡ 4 + length body = length-append (int32 (4 + length body)) body in
    let long : length (body ++ rest) ≡ length body + length rest = length-append body rest in
    let found : front_behind 1 4 limit (int32 (4 + length body) ++ (body ++ rest)) ≡ Whole (1 + (4 + length body)) = named_there 1 4 limit (4 + length body) (body ++ rest) (omega arith) (omega arith) fits (omega (arith, long)) in
    let sized : 1 + (4 + length body) ≡ length (packet (byte_of k) body) = omega (arith, size) in
    rw (kind_again k) (found ∙ ap Whole sized)

pub message_found : (limit : ℕ) (bytes rest : List ℕ) (m : TheMessage) → SpellsMessage bytes m → limit < 2 ^ 32 → length bytes ≤ 1 + limit → message_front limit (bytes ++ rest) ≡ Whole (length bytes)
message_found limit bytes rest m is small fits =
    let size : length (int32 (4 + length (the_body m)) ++ the_body m) ≡ 4 + length (the_body m) = length-append (int32 (4 + length (the_body m))) (the_body m) in
    let whole : length (message_bytes m) ≡ length bytes = ap length (sym is.bytes_are) in
    let long : length (message_bytes m) ≡ suc (4 + length (the_body m)) = ap suc size in
    let found = packet_found limit (the_kind m) (the_body m) rest small (omega arith) in
    subst (λ (b : List ℕ). message_front limit (b ++ rest) ≡ Whole (length b)) (sym is.bytes_are) found

pub start_found : (bytes rest : List ℕ) (p : TheStart) → SpellsStart bytes p → length bytes ≤ 10000 → start_front (bytes ++ rest) ≡ Whole (length bytes)
start_found bytes rest p is fits =
    let inner : length (int32 (code_of p) ++ start_body p) ≡ 4 + length (start_body p) = length-append (int32 (code_of p)) (start_body p) in
    let outer : length (start_bytes p) ≡ 4 + length (int32 (code_of p) ++ start_body p) = length-append (int32 (8 + length (start_body p))) (int32 (code_of p) ++ start_body p) in
    let size : length (start_bytes p) ≡ 8 + length (start_body p) = omega arith in
    let whole : length (start_bytes p) ≡ length bytes = ap length (sym is.bytes_are) in
    let long : length ((int32 (code_of p) ++ start_body p) ++ rest) ≡ length (int32 (code_of p) ++ start_body p) + length rest = length-append (int32 (code_of p) ++ start_body p) rest in
    let regrouped : start_bytes p ++ rest ≡ int32 (8 + length (start_body p)) ++ ((int32 (code_of p) ++ start_body p) ++ rest) = append_assoc (int32 (8 + length (start_body p))) (int32 (code_of p) ++ start_body p) rest in
    let plain : 0 + (8 + length (start_body p)) ≡ 8 + length (start_body p) = omega arith in
    let found : start_front (start_bytes p ++ rest) ≡ Whole (8 + length (start_body p)) = ap start_front regrouped ∙ named_there 0 8 10000 (8 + length (start_body p)) ((int32 (code_of p) ++ start_body p) ++ rest) (omega arith) (omega arith) (omega arith) (omega arith) ∙ ap Whole plain in
    subst (λ (b : List ℕ). start_front (b ++ rest) ≡ Whole (length b)) (sym is.bytes_are) (found ∙ ap Whole (sym size))
