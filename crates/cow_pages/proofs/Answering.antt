-- What follows from the outcome of a call.
use Rattle.std.proofs.Common.{Result, Ok, Err, OnOk, IfOk, IfErr, MatchResult}

module _ {T E : Type 0} (P : T → Type 0) (Q : E → Type 0) where
  pub on_ok_by : {S : Type 0} (r : Result T E) → MatchResult r P Q → ((x : T) → P x → S) → OnOk r S
  on_ok_by (Ok x) is so = so x is
  on_ok_by (Err e) is so = tt

  pub if_ok_by : (S : T → Type 0) (r : Result T E) → MatchResult r P Q → ((x : T) → P x → S x) → IfOk r S
  if_ok_by S (Ok x) is so = so x is
  if_ok_by S (Err e) is so = tt

  pub if_err_by : (S : E → Type 0) (r : Result T E) → MatchResult r P Q → ((e : E) → Q e → S e) → IfErr r S
  if_err_by S (Ok x) is so = tt
  if_err_by S (Err e) is so = so e is
