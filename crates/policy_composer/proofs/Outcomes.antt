-- The value of a formula by the outcomes of its conditions.
use Rattle.std.proofs.Common.{◌≡◌, true, false, List, [], ◌∷◌, map, fold, Ok, Err, refl, ap, ◌∙◌}
use Rattle.sql_types.specs.declared.value.Value.{Value}
use Rattle.sql_types.specs.declared.value.Value.TheVariants.{Null, Int, Text, Bool as Boolean}
use Rattle.sql_ast.specs.Term.{Term, conjunction, disjunction}
use Rattle.expressions.specs.Outcome.{Outcome, with_value}
use Rattle.expressions.specs.Stages.{◌>>=◌}
use Rattle.expressions.specs.Meaning.{UserNames, value_of, and_then, or_else}
use Rattle.abstract_database.specs.Expressions.{when_true}
use Rattle.abstract_database.specs.Guards.{any_of, formula}

abbrev conjoined : Outcome → List Outcome → Outcome
conjoined o [] = o
conjoined o (p ∷ ps) = conjoined (with_value o (λ x. and_then x p)) ps

abbrev disjoined : Outcome → List Outcome → Outcome
disjoined o [] = o
disjoined o (p ∷ ps) = disjoined (with_value o (λ x. or_else x p)) ps

abbrev any_outcome : List Outcome → Outcome
any_outcome [] = Ok (Boolean false)
any_outcome (o ∷ os) = disjoined o os

-- (p1 OR p2 ..) AND r1 AND r2 .. of outcomes
abbrev pub formula_outcome : List Outcome → List Outcome → Outcome
formula_outcome ps rs = conjoined (any_outcome ps) rs

module _ {C : Type 0} (cell : C → Value) (users : UserNames) where
  of_conjunction : (t : Term C) (ts : List (Term C)) → value_of cell users (fold conjunction t ts) ≡ conjoined (value_of cell users t) (map (value_of cell users) ts)
  of_conjunction t [] = refl
  of_conjunction t (r ∷ rs) = of_conjunction (conjunction t r) rs

  of_disjunction : (t : Term C) (ts : List (Term C)) → value_of cell users (fold disjunction t ts) ≡ disjoined (value_of cell users t) (map (value_of cell users) ts)
  of_disjunction t [] = refl
  of_disjunction t (r ∷ rs) = of_disjunction (disjunction t r) rs

  of_any : (ts : List (Term C)) → value_of cell users (any_of ts) ≡ any_outcome (map (value_of cell users) ts)
  of_any [] = refl
  of_any (t ∷ ts) = of_disjunction t ts

  pub of_formula : (ps rs : List (Term C)) → value_of cell users (formula ps rs) ≡ formula_outcome (map (value_of cell users) ps) (map (value_of cell users) rs)
  of_formula ps rs = of_conjunction (any_of ps) rs ∙ ap (λ o. conjoined o (map (value_of cell users) rs)) (of_any ps)

-- a last formula behind which nothing is asked
pub last_one : (o : Outcome) → (o >>= λ v. when_true v (Ok (Boolean true)) (Ok v)) ≡ o
last_one (Ok Null) = refl
last_one (Ok (Int n)) = refl
last_one (Ok (Text t)) = refl
last_one (Ok (Boolean true)) = refl
last_one (Ok (Boolean false)) = refl
last_one (Err code) = refl
