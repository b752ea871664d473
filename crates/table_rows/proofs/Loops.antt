-- Steps over lists.
use Rattle.std.proofs.Common.{◌≡◌, ℕ, suc, ◌+◌, ◌<◌, List, ◌∷◌, length, get_or, drop, Result, Err, sym, ap, ◌∙◌, subst, add-one}
use Rattle.std.proofs.Math.Seq.{drop-cons}
use Rattle.sql_types.specs.declared.state.SqlState.{SqlState}
use Rattle.store.specs.declared.fault.Fault.TheVariants.{Memory, Device, Damaged}
use Rattle.expressions.specs.Stages.{each}
use Rattle.expressions.proofs.Each.{Left, fails}
use Rattle.store.specs.declared.stop.StatementError.{StatementError}
use Rattle.store.specs.declared.stop.StatementError.TheVariants.{Refused, Failed}
use Rattle.table_rows.specs.Failures.{Gives}

pub here : {A : Type 0} (xs : List A) (i : ℕ) (x : A) → x ≡ get_or xs i x → i < length xs → drop i xs ≡ x ∷ drop (i + 1) xs
here xs i x e lt = drop-cons xs i x lt ∙ ap (λ h. h ∷ drop (suc i) xs) (sym e) ∙ ap (λ n. x ∷ drop n xs) (sym (add-one i))

-- an element that is refused
pub each_failed : {A B : Type 0} (f : A → Result B SqlState) (xs : List A) (i : ℕ) (done : List B) (x : A) (failure : StatementError) → Left f xs (drop i xs) done → x ≡ get_or xs i x → i < length xs
    → (let r : Result B StatementError = Err failure in Gives r (f x)) → (let r : Result (List B) StatementError = Err failure in Gives r (each f xs))
each_failed f xs i done x (Refused code) l at lt e = fails f xs (drop (i + 1) xs) done x code (subst (λ rest. Left f xs rest done) (here xs i x at lt) l) e
each_failed f xs i done x (Failed Memory) l at lt e = tt
each_failed f xs i done x (Failed Device) l at lt e = e
each_failed f xs i done x (Failed Damaged) l at lt e = e
