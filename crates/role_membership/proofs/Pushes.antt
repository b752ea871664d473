-- A list that grows beside another one: what holds of each pair holds with one pair more.
use Rattle.std.proofs.Common.{◌≡◌, ◌<◌, ◌++◌, ◌∷◌, [], ℕ, List, Some, length, slice_get, get_or, sym, ap, ◌∙◌, subst, inl, inr, arith}
use Rattle.std.proofs.lemmas.Bool.{cases_lt}
use Rattle.std.proofs.lemmas.List.{get_or_append_left, get_or_push, length_push}
use Rattle.std.proofs.lemmas.Option.{same_Some, slice_get_within, slice_get-get_or, get_or_from_slice_get}

module _ {X E : Type 0} (P : ℕ → X → E → Type 0) (n : ℕ) (xs : List X) (es : List E) where
  -- of each two at one index
  abbrev pub Each : List E → Type 0
  Each list = (i : ℕ) (x : X) (e : E) → slice_get xs i ≡ Some x → slice_get list i ≡ Some e → P i x e

  pub each_more : (x : X) (e : E) → length es ≡ n → Each es → slice_get xs n ≡ Some x → P n x e → Each (es ++ e ∷ [])
  each_more x e count each at is i y d at_y at_d = elim (cases_lt i n) [
    | inl before ↦
        let inside : i < length es = omega (arith, before, count) in
        let same : d ≡ get_or es i d = sym (get_or_from_slice_get (es ++ e ∷ []) i d d at_d) ∙ get_or_append_left es (e ∷ []) d i inside in
        each i y d at_y (slice_get-get_or es i d inside ∙ ap (λ (f : E). Some f) (sym same))
    | inr from ↦
        let within = slice_get_within (es ++ e ∷ []) i d at_d in
        let last : n ≡ i = omega (arith, from, within, length_push es e, count) in
        let same_x : x ≡ y = same_Some x y (sym at ∙ ap (λ (k : ℕ). slice_get xs k) last ∙ at_y) in
        let at_end : length es ≡ i = omega (arith, last, count) in
        let same_e : e ≡ d = sym (get_or_push es e d i at_end) ∙ get_or_from_slice_get (es ++ e ∷ []) i d d at_d in
        subst (λ (f : E). P i y f) same_e (subst (λ (z : X). P i z e) same_x (subst (λ (k : ℕ). P k x e) last is))
  ]
