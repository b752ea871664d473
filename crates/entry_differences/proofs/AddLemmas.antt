-- A change that a batch takes in is added to its changes.
use Rattle.std.proofs.Common.{◌≡◌, ℕ, List, [], ◌∷◌, Option, Some, Result, Ok, Err, OnOk, ap, ◌∙◌}
use Rattle.store.specs.Records.{Changes, IsOrdered, changed, applied}
use Rattle.store.proofs.Changes.{put_applied}
use Rattle.entry_differences.specs.Additions.{Adds}

pub added : {E : Type 0} (result : Result (Unit {0}) E) (key k : List ℕ) (value : Option (List ℕ)) (old new : Changes) → IsOrdered old → k ≡ key
    → OnOk result (new ≡ changed k (Some value) old) → OnOk result (Adds ((key, value) ∷ []) old new)
added (Ok x) key k value old new o same is = λ records ordered.
    ap (λ (cs : Changes). applied cs records) (is ∙ ap (λ (j : List ℕ). changed j (Some value) old) same) ∙ put_applied key value old records o ordered
added (Err e) key k value old new o same is = tt

pub added_value : {E : Type 0} (result : Result (Unit {0}) E) (key k value v : List ℕ) (old new : Changes) → IsOrdered old → k ≡ key → v ≡ value
    → OnOk result (new ≡ changed k (Some (Some v)) old) → OnOk result (Adds ((key, Some value) ∷ []) old new)
added_value (Ok x) key k value v old new o same as_said is = λ records ordered.
    ap (λ (cs : Changes). applied cs records) (is ∙ both same as_said) ∙ put_applied key (Some value) old records o ordered
  where
    both : {j l w x : List ℕ} → j ≡ l → w ≡ x → changed j (Some (Some w)) old ≡ changed l (Some (Some x)) old
    both p q = cc
added_value (Err e) key k value v old new o same as_said is = tt
