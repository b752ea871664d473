-- What one element more makes of the lists of those that wait.
use Rattle.std.proofs.Common.{◌≡◌, ◌≢◌, ◌<◌, ◌+◌, inl, inr, ℕ, zero, suc, List, [], ◌∷◌, ◌++◌, length, get_or, refl, sym, ap, ◌∙◌, subst, arith}
use Rattle.std.proofs.Math.ListN.{set}
use Rattle.std.proofs.lemmas.Bool.{cases_lt, cases_eq}
use Rattle.std.proofs.lemmas.Grind.{common_steps}
use Rattle.std.proofs.lemmas.List.{get_or_append_left, get_or_at}
use Rattle.std.specs.declared.vec.Vec.{Vec}
use Rattle.std.specs.declared.alloc.Global.{Global}
use Rattle.reachability.specs.Waiting.{bucket_at, Wait}

same_list : (lists : List (Vec ℕ Global)) (key : ℕ) (new : Vec ℕ Global) → key < length lists → bucket_at (set lists key new) key ≡ new.items
same_list [] key new lt = absurd (omega (arith, lt))
same_list (l ∷ lists) zero new lt = refl
same_list (l ∷ lists) (suc key) new lt = same_list lists key new (omega (arith, lt))

other_list : (lists : List (Vec ℕ Global)) (key k : ℕ) (new : Vec ℕ Global) → k ≢ key → bucket_at (set lists key new) k ≡ bucket_at lists k
other_list [] key k new other = refl
other_list (l ∷ lists) zero zero new other = absurd (other refl)
other_list (l ∷ lists) zero (suc k) new other = refl
other_list (l ∷ lists) (suc key) zero new other = refl
other_list (l ∷ lists) (suc key) (suc k) new other = other_list lists key k new (λ same. other (ap suc same))

-- the list of a key is that at its index
pub list_of : (lists : List (Vec ℕ Global)) (key : ℕ) (old : Vec ℕ Global) → key < length lists → old ≡ get_or lists key old → bucket_at lists key ≡ old.items
list_of [] key old lt is = absurd (omega (arith, lt))
list_of (l ∷ lists) zero old lt is = ap (λ (v : Vec ℕ Global). v.items) (sym is)
list_of (l ∷ lists) (suc key) old lt is = list_of lists key old (omega (arith, lt)) is

module _ (n : ℕ) (waits_for : List ℕ) (lists : List (Vec ℕ Global)) (old new : Vec ℕ Global) (inside : get_or waits_for n 0 < length lists) (is : old ≡ get_or lists (get_or waits_for n 0) old) (pushed : new.items ≡ old.items ++ n ∷ []) (wait : Wait n waits_for lists) where
  here : bucket_at (set lists (get_or waits_for n 0) new) (get_or waits_for n 0) ≡ bucket_at lists (get_or waits_for n 0) ++ n ∷ []
  here = same_list lists _ new inside ∙ pushed ∙ ap (λ (items : List ℕ). items ++ n ∷ []) (sym (list_of lists _ old inside is))

  there : (i : ℕ) → i < n + 1 → (k : ℕ) × (k < length (bucket_at (set lists (get_or waits_for n 0) new) (get_or waits_for i 0))) × (get_or (bucket_at (set lists (get_or waits_for n 0) new) (get_or waits_for i 0)) k 0 ≡ i)
  there i lt = elim (cases_lt i n) [
    | inr from ↦
        let same : i ≡ n = omega (arith, lt, from) in
        subst (λ (j : ℕ). (k : ℕ) × (k < length (bucket_at (set lists (get_or waits_for n 0) new) (get_or waits_for j 0))) × (get_or (bucket_at (set lists (get_or waits_for n 0) new) (get_or waits_for j 0)) k 0 ≡ j)) (sym same)
        (length (bucket_at lists (get_or waits_for n 0)), rw here (grind (arith, common_steps)), rw here (get_or_at (bucket_at lists (get_or waits_for n 0)) n [] 0 _ refl))
    | inl before ↦
        let was = wait.there i before in
        elim (cases_eq (get_or waits_for i 0) (get_or waits_for n 0)) [
          | inl same ↦
              subst (λ (e : ℕ). (k : ℕ) × (k < length (bucket_at (set lists (get_or waits_for n 0) new) e)) × (get_or (bucket_at (set lists (get_or waits_for n 0) new) e) k 0 ≡ i)) (sym same)
              (let moved = subst (λ (e : ℕ). (k : ℕ) × (k < length (bucket_at lists e)) × (get_or (bucket_at lists e) k 0 ≡ i)) same was in
              (moved.0, rw here (grind (arith, common_steps, moved.1)), rw here (get_or_append_left (bucket_at lists (get_or waits_for n 0)) (n ∷ []) 0 moved.0 moved.1 ∙ moved.2)))
          | inr other ↦ (was.0, rw (other_list lists (get_or waits_for n 0) (get_or waits_for i 0) new other) was.1, rw (other_list lists (get_or waits_for n 0) (get_or waits_for i 0) new other) was.2)
        ]
  ]

  only_here : (k : ℕ) → k < length (bucket_at lists (get_or waits_for n 0) ++ n ∷ []) → (get_or (bucket_at lists (get_or waits_for n 0) ++ n ∷ []) k 0 < n + 1) × (get_or waits_for (get_or (bucket_at lists (get_or waits_for n 0) ++ n ∷ []) k 0) 0 ≡ get_or waits_for n 0)
  only_here k lt = elim (cases_lt k (length (bucket_at lists (get_or waits_for n 0)))) [
    | inl before ↦
        let was = wait.only (get_or waits_for n 0) k before in
        rw (get_or_append_left (bucket_at lists (get_or waits_for n 0)) (n ∷ []) 0 k before) (omega (arith, was.0), was.1)
    | inr from ↦
        let last : k ≡ length (bucket_at lists (get_or waits_for n 0)) = grind (arith, common_steps, lt, from) in
        rw (get_or_at (bucket_at lists (get_or waits_for n 0)) n [] 0 k (sym last)) (omega arith, refl)
  ]

  only : (e k : ℕ) → k < length (bucket_at (set lists (get_or waits_for n 0) new) e) → (get_or (bucket_at (set lists (get_or waits_for n 0) new) e) k 0 < n + 1) × (get_or waits_for (get_or (bucket_at (set lists (get_or waits_for n 0) new) e) k 0) 0 ≡ e)
  only e k lt = elim (cases_eq e (get_or waits_for n 0)) [
    | inl same ↦
        subst (λ (e : ℕ). k < length (bucket_at (set lists (get_or waits_for n 0) new) e) → (get_or (bucket_at (set lists (get_or waits_for n 0) new) e) k 0 < n + 1) × (get_or waits_for (get_or (bucket_at (set lists (get_or waits_for n 0) new) e) k 0) 0 ≡ e)) (sym same)
        (λ inside. rw here (only_here k (rw here at inside))) lt
    | inr other ↦
        let stays = other_list lists (get_or waits_for n 0) e new other in
        let was = wait.only e k (rw stays at lt) in
        rw stays (omega (arith, was.0), was.1)
  ]

  -- one element more waits
  pub waits_more : Wait (n + 1) waits_for (set lists (get_or waits_for n 0) new)
  waits_more = record { there = there; only = only }
