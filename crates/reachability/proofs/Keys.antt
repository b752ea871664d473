-- Chains by numbers are chains by keys.
use Rattle.std.proofs.Common.{◌≡◌, ◌<◌, ℕ, Bool, true, false, List, Option, Some, None, length, slice_get, get_or, refl, sym, ap, ◌∙◌, subst, inl, inr, arith}
use Rattle.std.specs.Cmp.{IsEquivalence}
use Rattle.std.specs.List.{IsDistinct}
use Rattle.std.proofs.lemmas.Bool.{cases_lt}
use Rattle.std.proofs.lemmas.List.{get_or_past, get_or_default}
use Rattle.std.proofs.lemmas.Option.{slice_get_within, slice_get_cases, none-some}
use Rattle.reachability.specs.declared.keyed.Element.{Element}
use Rattle.reachability.specs.Reached.{Elements, HaveKeysBelow, IsReached, by_start, by_step, AreReached}
use Rattle.reachability.specs.Keyed.{IsNumberOf, IsNumberIfAny, IsNumbered, NumberFirst, gives_key, IsReachedByKeys, AreReachedByKeys}
use Rattle.reachability.specs.Keyed.{by_start as start_by_keys, by_step as step_by_keys}
use Rattle.reachability.proofs.Numbers.{same_number, same_key, number_inside}

module _ {K : Type 0} (eq : K → K → Bool) (laws : IsEquivalence eq) (known : List K) (distinct : IsDistinct eq known) where
  -- what gives the number of a key gives the key
  key_given : (g : Option K) (w : K) (m : ℕ) → IsNumberIfAny eq known g (Some m) → IsNumberOf eq known w m → gives_key eq g w ≡ true
  key_given None w m h a = absurd h
  key_given (Some k) w m h a = same_number eq laws known distinct k w m m h a refl

  number_given : (g : Option K) (w : K) (n : Option ℕ) (m : ℕ) → IsNumberIfAny eq known g n → IsNumberOf eq known w m → gives_key eq g w ≡ true → n ≡ Some m
  number_given None w n m h a e = cc
  number_given (Some k) w None m h a e = absurd h
  number_given (Some k) w (Some n) m h a e = ap (λ (j : ℕ). Some j) (same_key eq laws known distinct k w n m h a e)

  inside_if_any : (g : Option K) (m : ℕ) → IsNumberIfAny eq known g (Some m) → m < length known
  inside_if_any None m h = absurd h
  inside_if_any (Some k) m h = number_inside eq laws known distinct k m h

  module _ (es : List (Element K)) (starts : List Bool) (waits_for : List ℕ) (gives : List (Option ℕ)) (first : NumberFirst eq known (length es) es starts waits_for gives) where
    abbrev parts : Elements
    parts = record { starts = starts; waits_for = waits_for; gives = gives }

    element_at : (i : ℕ) → i < length es → (e : Element K) × (slice_get es i ≡ Some e) × IsNumbered eq known e (get_or starts i false) (get_or waits_for i 0) (get_or gives i None)
    element_at i lt = elim ((slice_get_cases es i).1) [
      | inl there ↦ (there.0, there.2, first.each i there.0 lt there.2)
      | inr past ↦ absurd (omega (arith, lt, past.0))
    ]

    gives_inside : (i m : ℕ) → get_or gives i None ≡ Some m → i < length es
    gives_inside i m e = elim (cases_lt i (length gives)) [
      | inl lt ↦ omega (arith, lt, first.gives_count)
      | inr past ↦ absurd (none-some m (sym (get_or_past gives i None past) ∙ e))
    ]

    pub keys_below : HaveKeysBelow (length known) parts
    keys_below = record {
      waits_for_count = first.waits_for_count ∙ sym first.starts_count;
      gives_count = first.gives_count ∙ sym first.starts_count;
      waits_for = λ i d lt.
          let lt_es : i < length es = omega (arith, lt, first.waits_for_count) in
          let found = element_at i lt_es in
          rw (get_or_default waits_for i d 0 lt) (number_inside eq laws known distinct found.0.waits_for (get_or waits_for i 0) found.2.waits_for);
      gives = λ i key e.
          let found = element_at i (gives_inside i key e) in
          inside_if_any found.0.gives key (subst (λ (n : Option ℕ). IsNumberIfAny eq known found.0.gives n) e found.2.gives);
    }

    to_keys : (i : ℕ) → IsReached parts i → IsReachedByKeys eq es i
    to_keys _ (by_start i lt is) =
        let lt_es : i < length es = omega (arith, lt, first.starts_count) in
        let found = element_at i lt_es in
        start_by_keys i found.0 found.1 (sym found.2.start ∙ is)
    to_keys _ (by_step p q r leads) =
        let lt_es : q < length es = omega (arith, leads.inside, first.starts_count) in
        let before = element_at p (gives_inside p (get_or waits_for q 0) leads.key) in
        let found = element_at q lt_es in
        step_by_keys p q before.0 found.0 (to_keys p r) before.1 found.1
        (key_given before.0.gives found.0.waits_for (get_or waits_for q 0) (subst (λ (n : Option ℕ). IsNumberIfAny eq known before.0.gives n) leads.key before.2.gives) found.2.waits_for)

    of_keys : (i : ℕ) → IsReachedByKeys eq es i → IsReached parts i
    of_keys _ (start_by_keys i e at is) =
        let lt : i < length es = slice_get_within es i e at in
        by_start i (omega (arith, lt, first.starts_count)) ((first.each i e lt at).start ∙ is)
    of_keys _ (step_by_keys p q d e r at_p at_q leads) =
        let lt_p : p < length es = slice_get_within es p d at_p in
        let lt_q : q < length es = slice_get_within es q e at_q in
        let before = first.each p d lt_p at_p in
        let found = first.each q e lt_q at_q in
        by_step p q (of_keys p r) (record { inside = omega (arith, lt_q, first.starts_count); key = number_given d.gives e.waits_for (get_or gives p None) (get_or waits_for q 0) before.gives found.waits_for leads })

    pub reached_by_keys : (marks : List Bool) → AreReached parts marks → AreReachedByKeys eq es marks
    reached_by_keys marks are = record {
      count = are.count ∙ first.starts_count;
      each = λ i. (λ m. to_keys i ((are.each i).0 m), λ r. (are.each i).1 (of_keys i r));
    }
