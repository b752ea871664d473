-- What finding one more element makes of marks and of the queue.
use Rattle.std.proofs.Common.{◌≡◌, ◌<◌, ◌+◌, inl, inr, ⊎_elim, ℕ, suc, Bool, true, false, List, [], ◌∷◌, ◌++◌, length, get_or, refl, sym, ap, ◌∙◌, subst, arith}
use Rattle.std.proofs.Math.ListN.{set}
use Rattle.std.specs.List.{count_by, sum_by}
use Rattle.std.proofs.lemmas.List.Sums.{sum_by-set}
use Rattle.std.specs.Prelude.{cond}
use Rattle.std.proofs.lemmas.Bool.{cases_lt, cases_eq}
use Rattle.std.proofs.lemmas.Grind.{common_steps}
use Rattle.std.proofs.lemmas.List.{get_or-set_same, get_or-set_other, get_or_append_left, get_or_at}
use Rattle.reachability.specs.Found.{IsMarked, IsAmongFirst, IsQueueOf, Finds, itself}

abbrev weight : Bool → ℕ
weight b = cond (itself b) 1 0

-- one mark more is counted once
pub count_marked : (marks : List Bool) (i : ℕ) → i < length marks → get_or marks i false ≡ false → count_by itself (set marks i true) ≡ suc (count_by itself marks)
count_marked marks i lt un =
    let h : sum_by weight (set marks i true) + weight (get_or marks i false) ≡ sum_by weight marks + 1 = sum_by-set weight marks i true false lt in
    omega (arith, rw un at h)

-- an element that had no mark is found
pub queue_added : (marks : List Bool) (queue : List ℕ) (i : ℕ) → i < length marks → get_or marks i false ≡ false → IsQueueOf marks queue → IsQueueOf (set marks i true) (queue ++ i ∷ [])
queue_added marks queue i lt un is = record {
  marked = λ at within. elim (cases_lt at (length queue)) [
    | inl before ↦
        let there : get_or (queue ++ i ∷ []) at 0 ≡ get_or queue at 0 = get_or_append_left queue (i ∷ []) 0 at before in
        subst (λ (e : ℕ). IsMarked (set marks i true) e) (sym there) (stays (get_or queue at 0) (is.marked at before))
    | inr from ↦
        let here : at ≡ length queue = grind (arith, common_steps, within, from) in
        subst (λ (e : ℕ). IsMarked (set marks i true) e) (sym (get_or_at queue i [] 0 at (sym here))) (get_or-set_same marks i true false lt)
  ];
  queued = λ j marked. elim (cases_eq j i) [
    | inl same ↦ (length queue, grind (arith, common_steps), get_or_at queue i [] 0 (length queue) refl ∙ sym same)
    | inr other ↦
        let was : IsMarked marks j = sym (get_or-set_other marks i j true false other) ∙ marked in
        let found = is.queued j was in
        (found.0, grind (arith, common_steps, found.1), get_or_append_left queue (i ∷ []) 0 found.0 found.1 ∙ found.2)
  ];
  once = grind (arith, common_steps, is.once, count_marked marks i lt un);
}
  where
    stays : (j : ℕ) → IsMarked marks j → IsMarked (set marks i true) j
    stays j m = elim (cases_eq j i) [
      | inl same ↦ subst (λ (e : ℕ). IsMarked (set marks i true) e) (sym same) (get_or-set_same marks i true false lt)
      | inr other ↦ get_or-set_other marks i j true false other ∙ m
    ]

-- the first of a list and then one more
pub finds_more : (list : List ℕ) (at e : ℕ) (marks : List Bool) (queue : List ℕ) (marks1 : List Bool) (queue1 : List ℕ) (marks2 : List Bool) (queue2 : List ℕ) → get_or list at 0 ≡ e
    → Finds (IsAmongFirst at list) marks queue marks1 queue1 → Finds (λ i. i ≡ e) marks1 queue1 marks2 queue2 → Finds (IsAmongFirst (at + 1) list) marks queue marks2 queue2
finds_more list at e marks queue marks1 queue1 marks2 queue2 is first then = record {
  count = then.count ∙ first.count;
  preserved = λ i m. then.preserved i (first.preserved i m);
  found = λ i p. elim (cases_lt p.0 at) [
    | inl before ↦ then.preserved i (first.found i (p.0, before, p.2))
    | inr from ↦ then.found i (let same : p.0 ≡ at = omega (arith, from, p.1) in sym p.2 ∙ ap (λ (k : ℕ). get_or list k 0) same ∙ is)
  ];
  only = λ i m. ⊎_elim
      (λ was. ⊎_elim (λ old. inl old) (λ p. inr (p.0, omega (arith, p.1), p.2)) (first.only i was))
      (λ same. inr (at, omega arith, is ∙ sym same))
      (then.only i m);
  longer = omega (arith, first.longer, then.longer);
  front = λ k lt. then.front k (omega (arith, lt, first.longer)) ∙ first.front k lt;
}
