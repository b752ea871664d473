-- Numbers in place of keys: one element more, and that equal numbers are equal keys.
use Rattle.std.proofs.Common.{◌≡◌, ◌<◌, ◌+◌, ◌++◌, ◌∷◌, [], ℕ, Bool, true, false, List, Option, Some, None, length, slice_get, get_or, sym, ap, ◌∙◌, subst, inl, inr, arith}
use Rattle.std.specs.Cmp.{IsEquivalence}
use Rattle.std.specs.List.{IsDistinct}
use Rattle.std.proofs.lemmas.Bool.{cases_lt, false≢true}
use Rattle.std.proofs.lemmas.List.{get_or_append_left, get_or_push, length_push}
use Rattle.std.proofs.lemmas.Option.{same_Some, slice_get_within, get_or_from_slice_get}
use Rattle.std.proofs.lemmas.Map.Keys.{apart_from_distinct}
use Rattle.reachability.specs.declared.keyed.Element.{Element}
use Rattle.reachability.specs.Keyed.{IsNumberOf, IsNumberIfAny, Extends, IsNumbered, NumberFirst}

module _ {K : Type 0} (eq : K → K → Bool) where
  number_stays : (old new : List K) → Extends old new → (key : K) (n : ℕ) → IsNumberOf eq old key n → IsNumberOf eq new key n
  number_stays old new more key n h = (h.0, more n h.0 h.1, h.2)

  if_any_stays : (old new : List K) → Extends old new → (key : Option K) (n : Option ℕ) → IsNumberIfAny eq old key n → IsNumberIfAny eq new key n
  if_any_stays old new more None None h = h
  if_any_stays old new more None (Some n) h = h
  if_any_stays old new more (Some key) None h = h
  if_any_stays old new more (Some key) (Some n) h = number_stays old new more key n h

  numbered_stays : (old new : List K) → Extends old new → (e : Element K) (mark : Bool) (waited : ℕ) (given : Option ℕ) → IsNumbered eq old e mark waited given → IsNumbered eq new e mark waited given
  numbered_stays old new more e mark waited given h = record {
    start = h.start;
    waits_for = number_stays old new more e.waits_for waited h.waits_for;
    gives = if_any_stays old new more e.gives given h.gives;
  }

  -- one element more
  pub number_more : (old mid new : List K) (n : ℕ) (es : List (Element K)) (e : Element K) (starts : List Bool) (waits_for : List ℕ) (gives : List (Option ℕ)) (mark : Bool) (waited : ℕ) (given : Option ℕ)
      → NumberFirst eq old n es starts waits_for gives → Extends old mid → Extends mid new → slice_get es n ≡ Some e → mark ≡ e.is_start → IsNumberOf eq mid e.waits_for waited → IsNumberIfAny eq new e.gives given
      → NumberFirst eq new (n + 1) es (starts ++ mark ∷ []) (waits_for ++ waited ∷ []) (gives ++ given ∷ [])
  number_more old mid new n es e starts waits_for gives mark waited given first some more at start is_waited is_given = record {
    starts_count = length_push starts mark ∙ ap (λ (m : ℕ). m + 1) first.starts_count;
    waits_for_count = length_push waits_for waited ∙ ap (λ (m : ℕ). m + 1) first.waits_for_count;
    gives_count = length_push gives given ∙ ap (λ (m : ℕ). m + 1) first.gives_count;
    each = λ i d lt there. elim (cases_lt i n) [
      | inl before ↦
          let starts_before : i < length starts = omega (arith, before, first.starts_count) in
          let waits_before : i < length waits_for = omega (arith, before, first.waits_for_count) in
          let gives_before : i < length gives = omega (arith, before, first.gives_count) in
          rw (get_or_append_left starts (mark ∷ []) false i starts_before, get_or_append_left waits_for (waited ∷ []) 0 i waits_before, get_or_append_left gives (given ∷ []) None i gives_before)
          (numbered_stays old new (λ m k h. more m k (some m k h)) d _ _ _ (first.each i d before there))
      | inr from ↦
          let same : i ≡ n = omega (arith, lt, from) in
          let is_e : e ≡ d = same_Some e d (sym at ∙ sym (ap (λ (j : ℕ). slice_get es j) same) ∙ there) in
          let starts_at : length starts ≡ i = omega (arith, same, first.starts_count) in
          let waits_at : length waits_for ≡ i = omega (arith, same, first.waits_for_count) in
          let gives_at : length gives ≡ i = omega (arith, same, first.gives_count) in
          rw (get_or_push starts mark false i starts_at, get_or_push waits_for waited 0 i waits_at, get_or_push gives given None i gives_at)
          (subst (λ (x : Element K). IsNumbered eq new x mark waited given) is_e (record { start = start; waits_for = number_stays mid new more e.waits_for waited is_waited; gives = is_given }))
    ];
  }

  module _ (laws : IsEquivalence eq) (known : List K) (distinct : IsDistinct eq known) where
    -- equal numbers are those of equal keys
    pub same_number : (x y : K) (n m : ℕ) → IsNumberOf eq known x n → IsNumberOf eq known y m → n ≡ m → eq x y ≡ true
    same_number x y n m a b e =
        let one : a.0 ≡ b.0 = same_Some a.0 b.0 (sym a.1 ∙ ap (λ (j : ℕ). slice_get known j) e ∙ b.1) in
        laws.congr x a.0 y a.2 ∙ laws.symm a.0 y ∙ ap (λ (k : K). eq y k) one ∙ b.2

    apart : (a b : K) (n m : ℕ) → slice_get known n ≡ Some a → slice_get known m ≡ Some b → eq a b ≡ true → n < m → ⊥
    apart a b n m at_n at_m e lt =
        let differ = apart_from_distinct eq known n m a distinct lt (slice_get_within known m b at_m) in
        false≢true (sym (sym (ap (λ (x : K). eq x (get_or known m a)) (get_or_from_slice_get known n a a at_n) ∙ ap (λ (y : K). eq a y) (get_or_from_slice_get known m b a at_m)) ∙ differ) ∙ e)

    -- equal keys have one number
    pub same_key : (x y : K) (n m : ℕ) → IsNumberOf eq known x n → IsNumberOf eq known y m → eq x y ≡ true → n ≡ m
    same_key x y n m a b e =
        let first : eq a.0 y ≡ true = sym (laws.congr x a.0 y a.2) ∙ e in
        let both : eq a.0 b.0 ≡ true = laws.symm a.0 b.0 ∙ sym (laws.congr y b.0 a.0 b.2) ∙ laws.symm y a.0 ∙ first in
        elim (cases_lt n m) [
          | inl lt ↦ absurd (apart a.0 b.0 n m a.1 b.1 both lt)
          | inr ge ↦ elim (cases_lt m n) [
            | inl gt ↦ absurd (apart b.0 a.0 m n b.1 a.1 (laws.symm b.0 a.0 ∙ both) gt)
            | inr le ↦ omega (arith, ge, le)
          ]
        ]

    -- a key has a number below the count of keys
    pub number_inside : (x : K) (n : ℕ) → IsNumberOf eq known x n → n < length known
    number_inside x n a = slice_get_within known n a.0 a.1
