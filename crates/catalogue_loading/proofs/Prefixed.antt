-- Bytes and what stands after a prefix of them.
use Rattle.std.proofs.Common.{◌≡◌, ℕ, true, false, nat_eq, List, ◌++◌, ap, sym, ◌∙◌, drop, length}
use Rattle.std.specs.List.{starts_with}
use Rattle.std.proofs.Math.Seq.{drop-append_seam}
use Rattle.store.proofs.HeldItems.{own_prefix}
use Rattle.store.proofs.Walking.{same_prefix}
use Rattle.stored_database.proofs.Prefixes.{front_of}

-- bytes with a prefix are the prefix and what stands after it
pub after_prefix : (p k : List ℕ) → starts_with nat_eq k p ≡ true → k ≡ p ++ drop (length p) k
after_prefix p k h =
    let found = front_of p k (sym (same_prefix p k) ∙ h) in
    found.1 ∙ ap (λ (zs : List ℕ). p ++ zs) (sym (ap (λ (zs : List ℕ). drop (length p) zs) found.1 ∙ drop-append_seam p found.0))

-- and the others begin otherwise
pub no_prefix : (p k rest : List ℕ) → starts_with nat_eq k p ≡ false → k ≡ p ++ rest → ⊥
no_prefix p k rest h is =
    let begins : true ≡ false = sym (ap (λ (zs : List ℕ). starts_with nat_eq zs p) is ∙ same_prefix p (p ++ rest) ∙ own_prefix p rest) ∙ h in
    cc
