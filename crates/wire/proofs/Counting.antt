-- Calls one after the other, of which each counts its failure.
use Rattle.std.proofs.Common.{◌≡◌, ◌∙◌, ℕ, Result, Ok, Err, subst}
use Rattle.wire.specs.Counts.{Rose, CountsFailure}

-- a call after others that succeeded
pub then_counted : {T E : Type 0} (r : Result T E) (a b c : ℕ) → b ≡ a → CountsFailure r b c → CountsFailure r a c
then_counted (Ok x) a b c same counts = counts ∙ same
then_counted (Err e) a b c same counts = subst (λ (n : ℕ). Rose n c) same counts
