-- Steps that may be refused, one after another.
use Rattle.std.proofs.Common.{◌≡◌, Result, Ok, Err, refl}
use Rattle.sql_types.specs.declared.state.SqlState.{SqlState}
use Rattle.expressions.specs.Stages.{◌>>=◌}

-- what follows a step may be said in another way
pub same_after : {A B : Type 0} (a : Result A SqlState) (f g : A → Result B SqlState) → ((x : A) → f x ≡ g x) → (a >>= f) ≡ (a >>= g)
same_after (Ok x) f g h = h x
same_after (Err code) f g h = refl

-- a step behind two others is one behind both
pub in_one : {A B C : Type 0} (a : Result A SqlState) (f : A → Result B SqlState) (g : B → Result C SqlState) → (a >>= λ x. (f x >>= g)) ≡ ((a >>= f) >>= g)
in_one (Ok x) f g = refl
in_one (Err code) f g = refl

-- two steps and a check, of which the one's value is wanted
pub one_wanted : {A C X : Type 0} (a : Result A SqlState) (c : Result C SqlState) (go : A → Result X SqlState) → (a >>= λ x. c >>= λ z. go x) ≡ ((a >>= λ x. c >>= λ z. Ok x) >>= go)
one_wanted (Ok x) (Ok z) go = refl
one_wanted (Ok x) (Err code) go = refl
one_wanted (Err code) c go = refl

abbrev pub paired : {A B : Type 0} → A → B → Result (A × B) SqlState
paired x y = Ok (x, y)

-- two steps and a check, of which the values of both are wanted
pub two_wanted : {A B C X : Type 0} (a : Result A SqlState) (b : Result B SqlState) (c : Result C SqlState) (go : A → B → Result X SqlState) →
    (a >>= λ x. b >>= λ y. c >>= λ z. go x y) ≡ ((a >>= λ x. b >>= λ y. c >>= λ z. paired x y) >>= λ p. go p.0 p.1)
two_wanted (Ok x) (Ok y) (Ok z) go = refl
two_wanted (Ok x) (Ok y) (Err code) go = refl
two_wanted (Ok x) (Err code) c go = refl
two_wanted (Err code) b c go = refl
