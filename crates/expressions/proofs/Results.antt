-- What was the outcome of a first stage, where that of both is known.
use Rattle.std.proofs.Common.{◌≡◌, Result, Ok, Err, refl, inl, inr}
use Rattle.std.specs.Prelude.{◌⊎◌}
use Rattle.sql_types.specs.declared.state.Refusal.{Refusal}
use Rattle.sql_types.specs.declared.state.SqlState.{SqlState}
use Rattle.sql_types.specs.declared.state.SqlState.TheVariants.{OutOfMemory}
use Rattle.expressions.specs.Names.{after_both}
use Rattle.expressions.specs.Stages.{◌>>=◌}

pub bind_ok : {A B : Type 0} (r : Result A SqlState) (go : A → Result B SqlState) (b : B) → (r >>= go) ≡ Ok b → (a : A) × (r ≡ Ok a) × (go a ≡ Ok b)
bind_ok (Ok a) go b e = (a, refl, e)
bind_ok (Err code) go b e = cc

pub bind_err : {A B : Type 0} (r : Result A SqlState) (f : A → B) (code : SqlState) → (r >>= λ a. Ok (f a)) ≡ Err code → r ≡ Err code
bind_err (Ok a) f code e = cc
bind_err (Err c) f code e = cc

pub ok_inside : {A : Type 0} (x y : A) → (let r : Result A SqlState = Ok x in r) ≡ Ok y → x ≡ y
ok_inside x y e = cc

pub pair_refused : {A : Type 0} (a b : Result A SqlState) (f : A → A → A) (r : Refusal) → (r.0 ≡ OutOfMemory) ⊎ (after_both a b (λ x y. Ok x) ≡ Err r.0) → (r.0 ≡ OutOfMemory) ⊎ (after_both a b (λ x y. Ok (f x y)) ≡ Err r.0)
pair_refused a b f r (inl e) = inl e
pair_refused (Ok x) (Ok y) f r (inr e) = cc
pair_refused (Ok x) (Err c) f r (inr e) = inr e
pair_refused (Err c) b f r (inr e) = inr e
