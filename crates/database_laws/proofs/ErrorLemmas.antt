-- Steps that may be refused, traced to the one that refused.
use Rattle.std.proofs.Common.{◌≡◌, ◌⊎◌, ◌&&◌, true, false, Some, None, Result, Ok, Err, refl, inl, inr}
use Rattle.sql_types.specs.Row.{Row}
use Rattle.sql_types.specs.declared.state.SqlState.{SqlState}
use Rattle.sql_types.specs.declared.value.Value.TheVariants.{Null, Int, Text, Bool as Boolean}
use Rattle.expressions.specs.Outcome.{Outcome}
use Rattle.expressions.specs.Stages.{◌>>=◌}
use Rattle.abstract_database.specs.Expressions.{when_true}
use Rattle.abstract_database.specs.Guards.{Guard}
use Rattle.abstract_database.specs.Changes.{Chosen, choose}
use Rattle.database_laws.specs.Visible.{is_met}

-- the first step was refused, or the others after it
pub bind_err : {A B : Type 0} (r : Result A SqlState) (go : A → Result B SqlState) (code : SqlState) → (r >>= go) ≡ Err code → (r ≡ Err code) ⊎ ((a : A) × (r ≡ Ok a) × (go a ≡ Err code))
bind_err (Ok a) go code e = inr (a, refl, e)
bind_err (Err c) go code e = inl cc

-- where the others are never refused
pub first_err : {A B : Type 0} (r : Result A SqlState) (go : A → B) (code : SqlState) → (r >>= λ a. Ok (go a)) ≡ Err code → r ≡ Err code
first_err (Ok a) go code e = cc
first_err (Err c) go code e = cc

-- ---- guards, and rows that are chosen

pub both_err : (o p : Outcome) (code : SqlState) → (o >>= λ v. when_true v p (Ok v)) ≡ Err code → (o ≡ Err code) ⊎ ((is_met o ≡ true) × (p ≡ Err code))
both_err (Ok (Boolean true)) p code e = inr (refl, e)
both_err (Ok (Boolean false)) p code e = cc
both_err (Ok Null) p code e = cc
both_err (Ok (Int n)) p code e = cc
both_err (Ok (Text t)) p code e = cc
both_err (Err c) p code e = inl e

-- what refuses a row of UPDATE or DELETE: its guard, the condition, or what becomes of it
pub data RefusesRow (guard condition : Outcome) (becomes : Result Row SqlState) (code : SqlState) : Type 0 where
  by_guard : guard ≡ Err code → RefusesRow guard condition becomes code
  by_condition : is_met guard ≡ true → condition ≡ Err code → RefusesRow guard condition becomes code
  by_change : (is_met guard && is_met condition) ≡ true → becomes ≡ Err code → RefusesRow guard condition becomes code

module _ (row : Row) (code : SqlState) where
  abbrev ended : Outcome → Result Row SqlState → Result Chosen SqlState
  ended condition becomes = condition >>= λ chosen. when_true chosen (becomes >>= λ r. Ok (Some r)) (Ok None) >>= λ new. Ok (record { row = row; new = new })

  change_err : (becomes : Result Row SqlState) → ◌≡◌ {A = Result Chosen SqlState} ((becomes >>= λ r. Ok (Some r)) >>= λ new. Ok (record { row = row; new = new })) (Err code) → becomes ≡ Err code
  change_err (Ok r) e = cc
  change_err (Err c) e = cc

  condition_err : (condition : Outcome) (becomes : Result Row SqlState) → ended condition becomes ≡ Err code → RefusesRow (Ok (Boolean true)) condition becomes code
  condition_err (Ok (Boolean true)) becomes e = by_change refl (change_err becomes e)
  condition_err (Ok (Boolean false)) becomes e = cc
  condition_err (Ok Null) becomes e = cc
  condition_err (Ok (Int n)) becomes e = cc
  condition_err (Ok (Text t)) becomes e = cc
  condition_err (Err c) becomes e = by_condition refl cc

  row_err : (guard condition : Outcome) (becomes : Result Row SqlState) → (guard >>= λ visible. ended (when_true visible condition (Ok (Boolean false))) becomes) ≡ Err code → RefusesRow guard condition becomes code
  row_err (Ok (Boolean true)) condition becomes e = condition_err condition becomes e
  row_err (Ok (Boolean false)) condition becomes e = cc
  row_err (Ok Null) condition becomes e = cc
  row_err (Ok (Int n)) condition becomes e = cc
  row_err (Ok (Text t)) condition becomes e = cc
  row_err (Err c) condition becomes e = by_guard cc

pub choose_err : (g : Guard) (condition : Row → Outcome) (becomes : Row → Result Row SqlState) (row : Row) (code : SqlState) → choose g condition becomes row ≡ Err code → RefusesRow (g row) (condition row) (becomes row) code
choose_err g condition becomes row code e = row_err row code (g row) (condition row) (becomes row) e
