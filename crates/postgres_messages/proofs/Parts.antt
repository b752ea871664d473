-- A part that is read is the part that was written, and what was written is read again.
use Rattle.std.proofs.Common.{◌≡◌, ◌≢◌, ℕ, zero, suc, ◌+◌, ◌^◌, ◌<◌, ◌≤◌, ◌&&◌, Bool, true, false, cond, ltb, leb, eqb, List, [], ◌∷◌, ◌++◌, length, get_or, take, drop, All, Option, Some, None, refl, sym, ap, subst, ◌∙◌, append_assoc, arith, inl, inr, ◌⊎◌}
use Rattle.std.specs.List.{flat_map, AllByRecursion}
use Rattle.std.specs.Int.{Width, w16, w32, byte_len, from_be_bytes, to_be_bytes}
use Rattle.std.proofs.lemmas.Bool.{cases_lt, ltb-false, le-ltb, eqb-true}
use Rattle.std.proofs.lemmas.Bool.Decides.{nat_tests}
use Rattle.std.proofs.lemmas.List.{take_at, drop_at, take-append-drop, length-append, length-take, get_or-drop, get_or-take, get_or_past, nil_from_length}
use Rattle.std.proofs.lemmas.List.Elements.{All-nil, All-cons, recursion_from_All}
use Rattle.std.proofs.lemmas.List.Concat.{flat_map-cons}
use Rattle.std.proofs.lemmas.Nat.{be_bytes_2, be_bytes_4, from_be_bytes-to_be_bytes_2, from_be_bytes-to_be_bytes_4}
use Rattle.postgres_messages.specs.Fields.{int16, int32, string, HasNoZeroByte, value, HasShortValue, counted, AreCounted}
use Rattle.postgres_messages.specs.Reading.{◌>>=◌, number_at, string_at, bytes_at, value_at, parts_at, counted_at, ended}

abbrev pub IsBytes : List ℕ → Type 0
IsBytes bytes = (i : ℕ) → get_or bytes i 0 < 256

pub IsBytes-drop : (n : ℕ) (bytes : List ℕ) → IsBytes bytes → IsBytes (drop n bytes)
IsBytes-drop n bytes h i = rw get_or-drop (h (n + i))

pub IsBytes-take : (n : ℕ) (bytes : List ℕ) → IsBytes bytes → IsBytes (take n bytes)
IsBytes-take n bytes h i =
    elim (cases_lt i n) [
      | inl lt ↦ rw (get_or-take n bytes i 0 lt) (h i)
      | inr le ↦ rw (get_or_past (take n bytes) i 0 (omega (arith, length-take n bytes))) (omega arith)
    ]

pub IsBytes-rest : (b : ℕ) (bytes : List ℕ) → IsBytes (b ∷ bytes) → IsBytes bytes
IsBytes-rest b bytes h i = h (suc i)

-- ---- steps

-- the value of a step that did not fail
pub bind_some : {A B : Type 0} (r : Option A) (f : A → Option B) (y : B) → (r >>= f) ≡ Some y → (x : A) × (r ≡ Some x) × (f x ≡ Some y)
bind_some (Some x) f y e = (x, refl, e)
bind_some None f y e = absurd cc

-- a test that did not fail
pub refused_not : {A : Type 0} (b : Bool) (x y : A) → cond b None (Some x) ≡ Some y → (b ≡ false) × (x ≡ y)
refused_not true x y e = absurd cc
refused_not false x y e = (refl, cc)

pub kept_some : {A : Type 0} (b : Bool) (x y : A) → cond b (Some x) None ≡ Some y → (b ≡ true) × (x ≡ y)
kept_some true x y e = (refl, cc)
kept_some false x y e = absurd cc

pub some_is : {A : Type 0} (x y : A) → Some x ≡ Some y → x ≡ y
some_is x y e = cc

pub chosen : {A : Type 0} (b : Bool) (x y z : A) → cond b x y ≡ z → ((b ≡ true) × (x ≡ z)) ⊎ ((b ≡ false) × (y ≡ z))
chosen true x y z e = inl (refl, e)
chosen false x y z e = inr (refl, e)

-- nothing follows
pub ended_takes : {A : Type 0} (rest : List ℕ) (x y : A) → ended rest x ≡ Some y → (rest ≡ []) × (x ≡ y)
ended_takes rest x y e = let g = kept_some (eqb (length rest) 0) x y e in (nil_from_length rest (eqb-true (length rest) 0 g.0), g.1)

-- ---- parts

-- what a reader took from the front
pub record Takes (bytes text rest : List ℕ) : Type 0 where
  pub parts : bytes ≡ text ++ rest
  pub rest_fits : IsBytes rest

pub Takes-then : (a x b y c : List ℕ) → Takes a x b → Takes b y c → Takes a (x ++ y) c
Takes-then a x b y c p q = record { parts = p.parts ∙ ap (λ (t : List ℕ). x ++ t) q.parts ∙ sym (append_assoc x y c); rest_fits = q.rest_fits }

-- a reader and the spelling of what it reads
pub record IsPart {A : Type 0} (part : List ℕ → Option (A × List ℕ)) (spell : A → List ℕ) (HasForm : A → Type 0) : Type 0 where
  pub takes : (bytes : List ℕ) (x : A × List ℕ) → IsBytes bytes → part bytes ≡ Some x → Takes bytes (spell x.0) x.1 × HasForm x.0
  pub again : (x : A) (rest : List ℕ) → HasForm x → part (spell x ++ rest) ≡ Some (x, rest)

-- ---- numbers

pub record IsWide (w : Width) (limit : ℕ) : Type 0 where
  pub len : (n : ℕ) → length (to_be_bytes w n) ≡ byte_len w
  pub back : (bytes : List ℕ) → length bytes ≡ byte_len w → IsBytes bytes → to_be_bytes w (from_be_bytes w bytes) ≡ bytes
  pub again : (n : ℕ) → n < limit → from_be_bytes w (to_be_bytes w n) ≡ n
  pub below : (bytes : List ℕ) → IsBytes bytes → from_be_bytes w bytes < limit

wide16 : IsWide w16 (2 ^ 16)
wide16 = record {
  len = λ n. refl;
  back = λ bytes len fits. be_bytes_2 bytes _ len fits refl;
  again = λ n lt. from_be_bytes-to_be_bytes_2 n lt;
  below = λ bytes fits. omega (arith, fits 0, fits 1);
}

wide32 : IsWide w32 (2 ^ 32)
wide32 = record {
  len = λ n. refl;
  back = λ bytes len fits. be_bytes_4 bytes _ len fits refl;
  again = λ n lt. from_be_bytes-to_be_bytes_4 n lt;
  below = λ bytes fits. omega (arith, fits 0, fits 1, fits 2, fits 3);
}

number_takes : (w : Width) (limit : ℕ) (wide : IsWide w limit) (bytes : List ℕ) (x : ℕ × List ℕ) → IsBytes bytes → number_at w bytes ≡ Some x → Takes bytes (to_be_bytes w x.0) x.1 × (x.0 < limit)
number_takes w limit wide bytes x fits e =
    let n : ℕ = from_be_bytes w (take (byte_len w) bytes) in
    let g = refused_not (ltb (length bytes) (byte_len w)) (from_be_bytes w (take (byte_len w) bytes), drop (byte_len w) bytes) x e in
    let long : byte_len w ≤ length bytes = ltb-false _ _ g.0 in
    let front : to_be_bytes w (from_be_bytes w (take (byte_len w) bytes)) ≡ take (byte_len w) bytes = wide.back (take (byte_len w) bytes) (omega (arith, length-take (byte_len w) bytes)) (IsBytes-take (byte_len w) bytes fits) in
    let took : Takes bytes (to_be_bytes w (from_be_bytes w (take (byte_len w) bytes))) (drop (byte_len w) bytes) =
    record { parts = sym (take-append-drop (byte_len w) bytes) ∙ ap (λ (t : List ℕ). t ++ drop (byte_len w) bytes) (sym front); rest_fits = IsBytes-drop (byte_len w) bytes fits } in
    subst (λ (y : ℕ × List ℕ). Takes bytes (to_be_bytes w y.0) y.1 × (y.0 < limit)) g.1 (took, wide.below (take (byte_len w) bytes) (IsBytes-take (byte_len w) bytes fits))

number_again : (w : Width) (limit : ℕ) (wide : IsWide w limit) (n : ℕ) (rest : List ℕ) → n < limit → number_at w (to_be_bytes w n ++ rest) ≡ Some (n, rest)
number_again w limit wide n rest lt =
    let len = wide.len n in
    let long : ltb (length (to_be_bytes w n ++ rest)) (byte_len w) ≡ false = le-ltb _ _ (omega (arith, length-append (to_be_bytes w n) rest)) in
    rw (long, take_at (to_be_bytes w n) rest (byte_len w) len, drop_at (to_be_bytes w n) rest (byte_len w) len, wide.again n lt) refl

pub number16 : IsPart (number_at w16) int16 (λ n. n < 2 ^ 16)
number16 = record { takes = number_takes w16 (2 ^ 16) wide16; again = number_again w16 (2 ^ 16) wide16 }

pub number32 : IsPart (number_at w32) int32 (λ n. n < 2 ^ 32)
number32 = record { takes = number_takes w32 (2 ^ 32) wide32; again = number_again w32 (2 ^ 32) wide32 }

-- ---- strings

string_takes : (bytes : List ℕ) (x : List ℕ × List ℕ) → IsBytes bytes → string_at bytes ≡ Some x → Takes bytes (string x.0) x.1 × HasNoZeroByte x.0
unfolding string_at
string_takes [] x fits e = absurd cc
string_takes (zero ∷ rest) x fits e =
    subst (λ (y : List ℕ × List ℕ). Takes (0 ∷ rest) (string y.0) y.1 × HasNoZeroByte y.0) (some_is ([], rest) x e) (record { parts = refl; rest_fits = IsBytes-rest 0 rest fits }, All-nil (λ (byte : ℕ). byte ≢ 0))
string_takes (suc b ∷ rest) x fits e =
    let a = bind_some (string_at rest) (λ more. Some (suc b ∷ more.0, more.1)) x e in
    let t = string_takes rest a.0 (IsBytes-rest (suc b) rest fits) a.1 in
    let ne : suc b ≢ 0 = omega arith in
    let took : Takes (suc b ∷ rest) (string (suc b ∷ a.0.0)) a.0.1 = record { parts = ap (λ (t : List ℕ). suc b ∷ t) t.0.parts; rest_fits = t.0.rest_fits } in
    subst (λ (y : List ℕ × List ℕ). Takes (suc b ∷ rest) (string y.0) y.1 × HasNoZeroByte y.0) (some_is (suc b ∷ a.0.0, a.0.1) x a.2) (took, All-cons (λ (byte : ℕ). byte ≢ 0) (suc b) a.0.0 ne t.1)

again_by_recursion : (text rest : List ℕ) → AllByRecursion (λ byte. byte ≢ 0) text → string_at (string text ++ rest) ≡ Some (text, rest)
unfolding string_at
again_by_recursion [] rest h = refl
again_by_recursion (zero ∷ text) rest h = absurd (h.0 refl)
again_by_recursion (suc b ∷ text) rest h = rw (again_by_recursion text rest h.1) refl

pub string_part : IsPart string_at string HasNoZeroByte
string_part = record { takes = string_takes; again = λ text rest h. again_by_recursion text rest (recursion_from_All (λ (byte : ℕ). byte ≢ 0) text h) }

-- ---- values

abbrev Valued : Type 0
Valued = Option (List ℕ) × List ℕ

abbrev nothing_then : List ℕ → Valued
nothing_then rest = (None, rest)

abbrev bytes_then : ℕ → List ℕ → Valued
bytes_then n rest = (Some (take n rest), drop n rest)

both_true : (a b : Bool) → (a && b) ≡ true → (a ≡ true) × (b ≡ true)
both_true true b e = (refl, e)
both_true false b e = absurd cc

bytes_take : (bytes : List ℕ) (n : ℕ) (rest : List ℕ) (x : Valued) → Takes bytes (int32 n) rest → bytes_at n rest ≡ Some x → Takes bytes (value x.0) x.1 × HasShortValue x.0
unfolding bytes_at
bytes_take bytes n rest x front e =
    let g = kept_some (ltb n 0x80000000 && leb n (length rest)) (bytes_then n rest) x e in
    let tests = both_true (ltb n 0x80000000) (leb n (length rest)) g.0 in
    let below : ltb n 0x80000000 ≡ true = tests.0 in
    let within : leb n (length rest) ≡ true = tests.1 in
    let small : n < 0x80000000 = grind (arith, nat_tests) in
    let there : n ≤ length rest = grind (arith, nat_tests) in
    let len : length (take n rest) ≡ n = omega (arith, length-take n rest) in
    let second : Takes rest (take n rest) (drop n rest) = record { parts = sym (take-append-drop n rest); rest_fits = IsBytes-drop n rest front.rest_fits } in
    let both = Takes-then bytes (int32 n) rest (take n rest) (drop n rest) front second in
    let took : Takes bytes (value (Some (take n rest))) (drop n rest) = subst (λ (k : ℕ). Takes bytes (int32 k ++ take n rest) (drop n rest)) (sym len) both in
    let short : length (take n rest) < 2 ^ 31 = omega arith in
    subst (λ (y : Valued). Takes bytes (value y.0) y.1 × HasShortValue y.0) g.1 (took, short)

value_takes : (bytes : List ℕ) (x : Valued) → IsBytes bytes → value_at bytes ≡ Some x → Takes bytes (value x.0) x.1 × HasShortValue x.0
unfolding value_at
value_takes bytes x fits e =
    let a = bind_some (number_at w32 bytes) (λ n. cond (eqb n.0 0xFFFFFFFF) (Some (nothing_then n.1)) (bytes_at n.0 n.1)) x e in
    let t = number32.takes bytes a.0 fits a.1 in
    elim (chosen (eqb a.0.0 0xFFFFFFFF) (Some (nothing_then a.0.1)) (bytes_at a.0.0 a.0.1) (Some x) a.2) [
      | inl null ↦
          let minus : a.0.0 ≡ 0xFFFFFFFF = eqb-true a.0.0 0xFFFFFFFF null.0 in
          let took : Takes bytes (int32 0xFFFFFFFF) a.0.1 = subst (λ (k : ℕ). Takes bytes (int32 k) a.0.1) minus t.0 in
          subst (λ (y : Valued). Takes bytes (value y.0) y.1 × HasShortValue y.0) (some_is (nothing_then a.0.1) x null.1) (took, tt)
      | inr some ↦ bytes_take bytes a.0.0 a.0.1 x t.0 some.1
    ]

value_again : (v : Option (List ℕ)) (rest : List ℕ) → HasShortValue v → value_at (value v ++ rest) ≡ Some (v, rest)
unfolding value_at bytes_at
value_again None rest h = rw (number32.again 0xFFFFFFFF rest (omega arith)) refl
value_again (Some bytes) rest h =
    let lt : length bytes < 2 ^ 31 = h in
    let whole : number_at w32 (int32 (length bytes) ++ (bytes ++ rest)) ≡ Some (length bytes, bytes ++ rest) = number32.again (length bytes) (bytes ++ rest) (omega arith) in
    let other : eqb (length bytes) 0xFFFFFFFF ≡ false = grind (arith, nat_tests) in
    let small : ltb (length bytes) 0x80000000 ≡ true = grind (arith, nat_tests) in
    let le : length bytes ≤ length (bytes ++ rest) = omega (arith, length-append bytes rest) in
    let there : leb (length bytes) (length (bytes ++ rest)) ≡ true = grind (arith, nat_tests) in
    rw (whole, other, small, there, take_at bytes rest (length bytes) refl, drop_at bytes rest (length bytes) refl) refl

pub value_part : IsPart value_at value HasShortValue
value_part = record { takes = value_takes; again = value_again }

-- ---- parts behind their number

parts_take : {A : Type 0} (part : List ℕ → Option (A × List ℕ)) (spell : A → List ℕ) (HasForm : A → Type 0) (is : IsPart part spell HasForm) (n : ℕ) (bytes : List ℕ) (x : List A × List ℕ) → IsBytes bytes → parts_at part n bytes ≡ Some x
    → Takes bytes (flat_map spell x.0) x.1 × (length x.0 ≡ n) × All HasForm x.0
unfolding parts_at
parts_take {A} part spell HasForm is zero bytes x fits e =
    subst (λ (y : List A × List ℕ). Takes bytes (flat_map spell y.0) y.1 × (length y.0 ≡ 0) × All HasForm y.0) (some_is ([], bytes) x e) (record { parts = refl; rest_fits = fits }, refl, All-nil HasForm)
parts_take {A} part spell HasForm is (suc n) bytes x fits e =
    let a = bind_some (part bytes) (λ first. parts_at part n first.1 >>= λ others. Some (first.0 ∷ others.0, others.1)) x e in
    let b = bind_some (parts_at part n a.0.1) (λ others. Some (a.0.0 ∷ others.0, others.1)) x a.2 in
    let first = is.takes bytes a.0 fits a.1 in
    let second = parts_take part spell HasForm is n a.0.1 b.0 first.0.rest_fits b.1 in
    let both = Takes-then bytes (spell a.0.0) a.0.1 (flat_map spell b.0.0) b.0.1 first.0 second.0 in
    let took : Takes bytes (flat_map spell (a.0.0 ∷ b.0.0)) b.0.1 = rw flat_map-cons both in
    subst (λ (y : List A × List ℕ). Takes bytes (flat_map spell y.0) y.1 × (length y.0 ≡ suc n) × All HasForm y.0) (some_is (a.0.0 ∷ b.0.0, b.0.1) x b.2) (took, ap suc second.1, All-cons HasForm a.0.0 b.0.0 first.1 second.2)

parts_again : {A : Type 0} (part : List ℕ → Option (A × List ℕ)) (spell : A → List ℕ) (HasForm : A → Type 0) (is : IsPart part spell HasForm) (xs : List A) (rest : List ℕ) → AllByRecursion HasForm xs
    → parts_at part (length xs) (flat_map spell xs ++ rest) ≡ Some (xs, rest)
unfolding parts_at
parts_again part spell HasForm is [] rest h = refl
parts_again part spell HasForm is (x ∷ xs) rest h =
    let regrouped : flat_map spell (x ∷ xs) ++ rest ≡ spell x ++ (flat_map spell xs ++ rest) = ap (λ (t : List ℕ). t ++ rest) (flat_map-cons spell x xs) ∙ append_assoc (spell x) (flat_map spell xs) rest in
    ap (parts_at part (suc (length xs))) regrouped ∙ rw (is.again x (flat_map spell xs ++ rest) h.0, parts_again part spell HasForm is xs rest h.1) refl

counted_takes : {A : Type 0} (part : List ℕ → Option (A × List ℕ)) (spell : A → List ℕ) (HasForm : A → Type 0) (is : IsPart part spell HasForm) (bytes : List ℕ) (x : List A × List ℕ) → IsBytes bytes → counted_at part bytes ≡ Some x
    → Takes bytes (counted spell x.0) x.1 × AreCounted HasForm x.0
unfolding counted_at
counted_takes part spell HasForm is bytes x fits e =
    let a = bind_some (number_at w16 bytes) (λ n. parts_at part n.0 n.1) x e in
    let first = number16.takes bytes a.0 fits a.1 in
    let second = parts_take part spell HasForm is a.0.0 a.0.1 x first.0.rest_fits a.2 in
    let both = Takes-then bytes (int16 a.0.0) a.0.1 (flat_map spell x.0) x.1 first.0 second.0 in
    let took : Takes bytes (counted spell x.0) x.1 = subst (λ (k : ℕ). Takes bytes (int16 k ++ flat_map spell x.0) x.1) (sym second.1) both in
    (took, record { count = omega (arith, second.1, first.1); each = second.2 })

counted_again : {A : Type 0} (part : List ℕ → Option (A × List ℕ)) (spell : A → List ℕ) (HasForm : A → Type 0) (is : IsPart part spell HasForm) (xs : List A) (rest : List ℕ) → AreCounted HasForm xs
    → counted_at part (counted spell xs ++ rest) ≡ Some (xs, rest)
unfolding counted_at
counted_again part spell HasForm is xs rest h =
    let regrouped : counted spell xs ++ rest ≡ int16 (length xs) ++ (flat_map spell xs ++ rest) = append_assoc (int16 (length xs)) (flat_map spell xs) rest in
    ap (counted_at part) regrouped ∙ rw (number16.again (length xs) (flat_map spell xs ++ rest) h.count) (parts_again part spell HasForm is xs rest (recursion_from_All HasForm xs h.each))

pub counted_part : {A : Type 0} (part : List ℕ → Option (A × List ℕ)) (spell : A → List ℕ) (HasForm : A → Type 0) → IsPart part spell HasForm → IsPart (counted_at part) (counted spell) (AreCounted HasForm)
counted_part part spell HasForm is = record { takes = counted_takes part spell HasForm is; again = counted_again part spell HasForm is }
