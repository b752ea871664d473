-- Keys that are compared as numbers of eight bytes.
use mathlib.Core.Path.{◌≡◌, refl, sym, ap, subst, ◌∙◌}
use mathlib.Core.List.{List, [], ◌∷◌}
use Prim.Native.Nat.{ℕ, zero, suc, ◌+◌, ◌-◌, ◌*◌, ◌≤◌, ◌<◌}
use native.Mathlib.Omega.{arith}
use lib.ListN.{length, get_or, take, drop, length-drop}
use lib.Seq.{get_or-drop, drop-cons}
use lib.Lanes.{chunk}
use mir.Syntax.{w8}
use mir.Val.{Fits}
use Rattle.std.proofs.Common.{Bool, true, false, nat_eq, nat_lt, ◌&&◌, inl, inr}
use Rattle.std.proofs.lemmas.Bool.{eqb-true, lt-ltb, le-ltb, cases_lt}
use Rattle.std.proofs.lemmas.Bool.Decides.{eqb_tells}
use Rattle.std.proofs.lemmas.Cmp.{ranked}
use Rattle.std.specs.Prelude.{not}
use Rattle.std.specs.Str.{bytes_eq}
use Rattle.std.specs.Cmp.{nat_cmp_is}
use Rattle.std.specs.Cmp.Lexicographic.{bytes_decides, slice_cmp}
use Rattle.std.specs.declared.cmp.Ordering.{Ordering}
use Rattle.std.specs.declared.cmp.Ordering.TheVariants.{Less, Equal, Greater}
use Rattle.std.specs.Ordering.{is_lt, nat_cmp, ordering_then, MatchOrdering}
use Rattle.std.specs.Slice.Scan.{HoldsNowhere, differ, big_endian, Settles}

abbrev Bytes : List ℕ → Type 0
Bytes xs = (k : ℕ) → Fits w8 (get_or xs k 0)

abbrev Alike : List ℕ → List ℕ → ℕ → Type 0
Alike xs ys n = HoldsNowhere (differ xs ys) 0 n

below : {x y : ℕ} → x < y → nat_cmp x y ≡ Less
below {x} {y} h = sym (nat_cmp_is x y Less h)

above : {x y : ℕ} → y < x → nat_cmp x y ≡ Greater
above {x} {y} h = sym (nat_cmp_is x y Greater h)

level : {x y : ℕ} → x ≡ y → nat_cmp x y ≡ Equal
level {x} {y} h = sym (nat_cmp_is x y Equal h)

alike : (x y : ℕ) → not (nat_eq x y) ≡ false → nat_eq x y ≡ true
alike x y e = by (nat_eq x y) e
  where
    by : (b : Bool) → not b ≡ false → b ≡ true
    by true e = refl
    by false e = absurd cc

no_difference : (x y : ℕ) → x ≡ y → not (nat_eq x y) ≡ false
no_difference x y e = elim (eqb_tells x y) [ inl is ↦ ap not is.0 | inr is ↦ absurd (is.1 e) ]

-- the same bytes before an index decide nothing
pub order_past : (i : ℕ) (xs ys : List ℕ) → i ≤ length xs → i ≤ length ys → Alike xs ys i → slice_cmp nat_cmp xs ys ≡ slice_cmp nat_cmp (drop i xs) (drop i ys)
order_past zero xs ys a b h = refl
order_past (suc i) [] ys a b h = absurd (omega arith)
order_past (suc i) (x ∷ xs) [] a b h = absurd (omega arith)
order_past (suc i) (x ∷ xs) (y ∷ ys) a b h =
    ap (λ (r : Ordering). ordering_then r (slice_cmp nat_cmp xs ys)) (level (eqb-true x y (alike x y (h 0 (omega arith) (omega arith)))))
    ∙ order_past i xs ys (omega arith) (omega arith) (λ k l g. h (suc k) (omega arith) (omega arith))

pub equal_past : (i : ℕ) (xs ys : List ℕ) → i ≤ length xs → i ≤ length ys → Alike xs ys i → bytes_eq xs ys ≡ bytes_eq (drop i xs) (drop i ys)
equal_past zero xs ys a b h = refl
equal_past (suc i) [] ys a b h = absurd (omega arith)
equal_past (suc i) (x ∷ xs) [] a b h = absurd (omega arith)
equal_past (suc i) (x ∷ xs) (y ∷ ys) a b h =
    ap (λ (t : Bool). t && bytes_eq xs ys) (alike x y (h 0 (omega arith) (omega arith)))
    ∙ equal_past i xs ys (omega arith) (omega arith) (λ k l g. h (suc k) (omega arith) (omega arith))

-- where the numbers differ, so do the keys
pub differ_by_number : (xs ys : List ℕ) (n x y : ℕ) → Settles xs ys n x y → (x ≡ y → ⊥) → bytes_eq xs ys ≡ false
differ_by_number xs ys n x y t f = by (bytes_eq xs ys) refl
  where
    self : (l : List ℕ) → slice_cmp nat_cmp l l ≡ Equal
    self [] = refl
    self (z ∷ l) = ap (λ (r : Ordering). ordering_then r (slice_cmp nat_cmp l l)) (level {x = z} {y = z} refl) ∙ self l

    same_number : nat_cmp x y ≡ Equal → x ≡ y
    same_number is = subst (λ (r : Ordering). MatchOrdering r (x < y) (x ≡ y) (y < x)) is (ranked x y _ refl)

    never : xs ≡ ys → ⊥
    never e = f (same_number (sym (t.apart f) ∙ ap (slice_cmp nat_cmp xs) (sym e) ∙ self xs))

    by : (b : Bool) → bytes_eq xs ys ≡ b → b ≡ false
    by false is = refl
    by true is = absurd (never ((bytes_decides xs ys).0 is))

-- ---- bytes as numbers
rises : (n a b : ℕ) (us vs : List ℕ) → n ≤ length us → n ≤ length vs → Bytes us → a < b → big_endian a (take n us) < big_endian b (take n vs)
rises zero a b us vs p q h l = l
rises (suc n) a b [] vs p q h l = absurd (omega arith)
rises (suc n) a b (u ∷ us) [] p q h l = absurd (omega arith)
rises (suc n) a b (u ∷ us) (v ∷ vs) p q h l =
    let small : u < 256 = (h 0).fits in
    rises n (a * 256 + u) (b * 256 + v) us vs (omega arith) (omega arith) (λ k. h (suc k)) (omega arith)

spells : (n a : ℕ) (us vs : List ℕ) → n ≤ length us → n ≤ length vs → Bytes us → Bytes vs → Settles us vs n (big_endian a (take n us)) (big_endian a (take n vs))
spells zero a us vs p q g h = record { apart = λ f. absurd (f refl); alike = λ _ k l m. absurd (omega arith) }
spells (suc n) a [] vs p q g h = absurd (omega arith)
spells (suc n) a (u ∷ us) [] p q g h = absurd (omega arith)
spells (suc n) a (u ∷ us) (v ∷ vs) p q g h = by (spells n (a * 256 + u) us vs (omega arith) (omega arith) (λ k. g (suc k)) (λ k. h (suc k))) (nat_cmp u v) refl (ranked u v _ refl)
  where
    by : Settles us vs n (big_endian (a * 256 + u) (take n us)) (big_endian (a * 256 + u) (take n vs))
        → (r : Ordering) → nat_cmp u v ≡ r → MatchOrdering r (u < v) (u ≡ v) (v < u) → Settles (u ∷ us) (v ∷ vs) (suc n) (big_endian (a * 256 + u) (take n us)) (big_endian (a * 256 + v) (take n vs))
    by rest Less e l =
        let under : u < v = l in
        let t = rises n (a * 256 + u) (a * 256 + v) us vs (omega arith) (omega arith) (λ k. g (suc k)) (omega arith) in
        record { apart = λ _. ap (λ r. ordering_then r (slice_cmp nat_cmp us vs)) e ∙ sym (below t); alike = λ s. absurd (omega arith) }
    by rest Greater e l =
        let over : v < u = l in
        let t = rises n (a * 256 + v) (a * 256 + u) vs us (omega arith) (omega arith) (λ k. h (suc k)) (omega arith) in
        record { apart = λ _. ap (λ r. ordering_then r (slice_cmp nat_cmp us vs)) e ∙ sym (above t); alike = λ s. absurd (omega arith) }
    by rest Equal e l =
        let level : u ≡ v = l in
        let t = subst (λ z. Settles us vs n (big_endian (a * 256 + u) (take n us)) (big_endian (a * 256 + z) (take n vs))) level rest in
        record { apart = λ f. ap (λ r. ordering_then r (slice_cmp nat_cmp us vs)) e ∙ t.apart f; alike = λ s. both level (t.alike s) }
      where
        both : u ≡ v → Alike us vs n → Alike (u ∷ us) (v ∷ vs) (suc n)
        both level t zero l m = no_difference u v level
        both level t (suc k) l m = t k (omega arith) (omega arith)

module _ (xs ys : List ℕ) (bx : Bytes xs) (by : Bytes ys) where
  -- n bytes from i on, where those before are alike
  window : (i n : ℕ) → i + n ≤ length xs → i + n ≤ length ys → Alike xs ys i → Settles xs ys (i + n) (big_endian 0 (chunk i n xs)) (big_endian 0 (chunk i n ys))
  window i n p q h =
      let t = spells n 0 (drop i xs) (drop i ys) (omega (arith, length-drop i xs)) (omega (arith, length-drop i ys))
      (λ k. subst (Fits w8) (sym (get_or-drop i xs k 0)) (bx (i + k))) (λ k. subst (Fits w8) (sym (get_or-drop i ys k 0)) (by (i + k))) in
      record {
        apart = λ f. order_past i xs ys (omega arith) (omega arith) h ∙ t.apart f;
        alike = λ s k l m. later k (k - i) (h k l) (t.alike s (k - i) (omega arith)) m refl;
      }
    where
      later : (k j : ℕ) → (k < i → differ xs ys k ≡ false) → (j < n → differ (drop i xs) (drop i ys) j ≡ false) → k < i + n → j ≡ k - i → differ xs ys k ≡ false
      later k j f g m e = cases (nat_cmp k i) (ranked k i _ refl)
        where
          from : i ≤ k → differ xs ys k ≡ false
          from l = ap (differ xs ys) (omega arith) ∙ sym (λ t. not (nat_eq (get_or-drop i xs j 0 t) (get_or-drop i ys j 0 t))) ∙ g (omega arith)

          cases : (r : Ordering) → MatchOrdering r (k < i) (k ≡ i) (i < k) → differ xs ys k ≡ false
          cases Less l = f l
          cases Equal l = let q : k ≡ i = l in from (omega arith)
          cases Greater l = let q : i < k = l in from (omega arith)

  pub word : (i n x y : ℕ) → i + n ≤ length xs → i + n ≤ length ys → x ≡ big_endian 0 (chunk i n xs) → y ≡ big_endian 0 (chunk i n ys) → Alike xs ys i → Settles xs ys (i + n) x y
  word i n x y p q a b h = subst (Settles xs ys (i + n) x) (sym b) (subst (λ z. Settles xs ys (i + n) z (big_endian 0 (chunk i n ys))) (sym a) (window i n p q h))

module _ (xs ys : List ℕ) where
  pub fewer : (i j : ℕ) → i ≤ j → Alike xs ys j → Alike xs ys i
  fewer i j le h k l m = h k l (omega arith)

  pub up_to_lem : (i j x y : ℕ) → j ≤ i → Settles xs ys i x y → Settles xs ys j x y
  up_to_lem i j x y le t = record { apart = t.apart; alike = λ s. fewer j i le (t.alike s) }

  -- where x and y differ they settle all
  pub at_once : (i j x y : ℕ) → Settles xs ys i x y → (x ≡ y → ⊥) → Settles xs ys j x y
  at_once i j x y t f = record { apart = t.apart; alike = λ s. absurd (f s) }

-- n bytes from i + k on, as they are read
abbrev reads : List ℕ → ℕ → ℕ → ℕ → List ℕ
reads xs i k zero = []
reads xs i k (suc n) = get_or xs (i + k) 0 ∷ reads xs i (suc k) n

read_out : (n : ℕ) (xs : List ℕ) (i k : ℕ) → i + k + n ≤ length xs → chunk (i + k) n xs ≡ reads xs i k n
read_out zero xs i k le = refl
read_out (suc n) xs i k le =
    let next : suc (i + k) ≡ i + suc k = omega arith in
    ap (take (suc n)) (drop-cons xs (i + k) 0 (omega arith))
    ∙ ap (λ l. get_or xs (i + k) 0 ∷ l) (ap (λ m. chunk m n xs) next ∙ read_out n xs i (suc k) (omega arith))

module _ (xs : List ℕ) (i : ℕ) where
  spelt : (n : ℕ) → i + n ≤ length xs → big_endian 0 (chunk i n xs) ≡ big_endian 0 (reads xs i 0 n)
  spelt n le = let e : i ≡ i + 0 = omega arith in ap (big_endian 0) (ap (λ m. chunk m n xs) e ∙ read_out n xs i 0 (omega arith))

  here : get_or xs (i + 0) 0 ≡ get_or xs i 0
  here = ap (λ k. get_or xs k 0) (omega arith)

  pub eight_are : i + 8 ≤ length xs
      → get_or xs i 0 * 72057594037927936 + get_or xs (i + 1) 0 * 281474976710656 + get_or xs (i + 2) 0 * 1099511627776 + get_or xs (i + 3) 0 * 4294967296
      + get_or xs (i + 4) 0 * 16777216 + get_or xs (i + 5) 0 * 65536 + get_or xs (i + 6) 0 * 256 + get_or xs (i + 7) 0 ≡ big_endian 0 (chunk i 8 xs)
  eight_are le = omega (arith, here) ∙ sym (spelt 8 le)

-- a number is less where the order of the two says so
pub less_by_number : (x y : ℕ) → nat_lt x y ≡ is_lt (nat_cmp x y)
less_by_number x y = elim (cases_lt x y) [
  | inl lt ↦ lt-ltb x y lt ∙ sym (ap is_lt (below lt))
  | inr from ↦ le-ltb x y from ∙ by from (nat_cmp x y) (ranked x y _ refl)
]
  where
    by : y ≤ x → (r : Ordering) → MatchOrdering r (x < y) (x ≡ y) (y < x) → false ≡ is_lt r
    by from Less h = let less : x < y = h in absurd (omega arith)
    by from Equal h = refl
    by from Greater h = refl
