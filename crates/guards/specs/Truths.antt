-- Conditions by their truth alone.
use Rattle.std.specs.Prelude.{Bool, true, false, List, [], ◌∷◌, Result, Ok}
use Rattle.sql_types.specs.declared.state.SqlState.{SqlState}
use Rattle.sql_types.specs.declared.value.Truth.{Truth}
use Rattle.sql_types.specs.declared.value.Truth.TheVariants as truth
use Rattle.sql_types.specs.Value.{truth_of}
use Rattle.expressions.specs.Outcome.{Outcome}
use Rattle.expressions.specs.Stages.{◌>>=◌}
use Rattle.abstract_database.specs.Expressions.{when_true}

-- whether a condition is true
abbrev pub is_met : Outcome → Result Bool SqlState
is_met o = o >>= λ v. Ok (when_true v true false)

-- the truth of a condition
abbrev pub truth_in : Outcome → Result Truth SqlState
truth_in o = o >>= λ v. Ok (truth_of v)

abbrev pub is_true : Truth → Bool
is_true truth.True = true
is_true truth.False = false
is_true truth.Null = false

abbrev pub and_truth : Truth → Truth → Truth
and_truth truth.True right = right
and_truth truth.False right = truth.False
and_truth truth.Null truth.False = truth.False
and_truth truth.Null truth.True = truth.Null
and_truth truth.Null truth.Null = truth.Null

abbrev pub or_truth : Truth → Truth → Truth
or_truth truth.False right = right
or_truth truth.True right = truth.True
or_truth truth.Null truth.True = truth.True
or_truth truth.Null truth.False = truth.Null
or_truth truth.Null truth.Null = truth.Null

-- a truth AND these outcomes, from the left: behind what is false no outcome counts
abbrev pub and_all : Truth → List Outcome → Result Truth SqlState
and_all t [] = Ok t
and_all truth.False (o ∷ os) = Ok truth.False
and_all truth.True (o ∷ os) = o >>= λ v. and_all (and_truth truth.True (truth_of v)) os
and_all truth.Null (o ∷ os) = o >>= λ v. and_all (and_truth truth.Null (truth_of v)) os

-- a truth OR these outcomes, from the left: behind what is true no outcome counts
abbrev pub or_any : Truth → List Outcome → Result Truth SqlState
or_any t [] = Ok t
or_any truth.True (o ∷ os) = Ok truth.True
or_any truth.False (o ∷ os) = o >>= λ v. or_any (or_truth truth.False (truth_of v)) os
or_any truth.Null (o ∷ os) = o >>= λ v. or_any (or_truth truth.Null (truth_of v)) os
