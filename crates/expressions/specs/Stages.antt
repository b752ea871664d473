-- Stages that may be refused: each is finished before the next begins.
use Rattle.std.specs.Prelude.{Bool, true, false, List, [], ◌∷◌, Result, Ok, Err}
use Rattle.sql_types.specs.declared.state.SqlState.{SqlState}

-- what is done with a value, or the refusal before it
infixl 10 ◌>>=◌
abbrev pub ◌>>=◌ : {A B : Type 0} → Result A SqlState → (A → Result B SqlState) → Result B SqlState
(Ok x) >>= go = go x
(Err code) >>= go = Err code

-- continues where the test holds, and is refused where it does not
abbrev pub require : Bool → SqlState → Result (Unit {0}) SqlState
require true code = Ok tt
require false code = Err code

-- the value of each element, or the first refusal
abbrev pub each : {A B : Type 0} → (A → Result B SqlState) → List A → Result (List B) SqlState
each f [] = Ok []
each f (x ∷ xs) = f x >>= λ y. each f xs >>= λ ys. Ok (y ∷ ys)
