-- What is so where a call succeeded.
use Rattle.std.proofs.Common.{◌≡◌, ◌∙◌, Bool, true, false, Result, Ok, Err, IfOk, OnOk, OnErr, MatchResult, sym}
use Rattle.std.proofs.lemmas.Bool.{false≢true}

pub on_ok_also : {T E : Type 0} {P Q : Type 0} (r : Result T E) → OnOk r P → (P → Q) → OnOk r Q
on_ok_also (Ok x) is so = so is
on_ok_also (Err e) is so = tt

pub on_ok_always : {T E : Type 0} {P : Type 0} (r : Result T E) → P → OnOk r P
on_ok_always (Ok x) is = is
on_ok_always (Err e) is = tt

pub on_err_always : {T E : Type 0} {P : Type 0} (r : Result T E) → P → OnErr r P
on_err_always (Ok x) is = tt
on_err_always (Err e) is = is

pub on_err_also : {T E : Type 0} {P Q : Type 0} (r : Result T E) → OnErr r P → (P → Q) → OnErr r Q
on_err_also (Ok x) is so = tt
on_err_also (Err e) is so = so is

pub on_ok_both : {T E : Type 0} {P Q R : Type 0} (r : Result T E) → OnOk r P → OnOk r Q → (P → Q → R) → OnOk r R
on_ok_both (Ok x) one two so = so one two
on_ok_both (Err e) one two so = tt

-- what is so where a call failed
pub failed : {T E : Type 0} (r : Result T E) (P : T → Type 0) (S : Type 0) (y : E) → r ≡ Err y → S → MatchResult r P (λ _. S)
failed r P S y err is = rw err is

-- nothing is owed of a success where the call failed
pub never_ok : {T E : Type 0} (r : Result T E) (P : T → Type 0) (y : E) → r ≡ Err y → IfOk r P
never_ok r P y err = rw err tt

-- a test is not both
pub not_both : {P : Type 0} (failed : Bool) → failed ≡ false → failed ≡ true → P
not_both failed is was = absurd (false≢true (sym is ∙ was))
