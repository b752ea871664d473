-- The checks of new rows.
use Rattle.std.proofs.Common.{◌≡◌, Bool, true, false, not, List, [], ◌∷◌, ◌++◌, Result, Ok, Err, refl, sym, ap, ◌∙◌}
use Rattle.std.specs.List.{AllByRecursion, list_all}
use Rattle.std.proofs.lemmas.Bool.{and_parts, leb-true}
use Rattle.sql_types.specs.declared.state.SqlState.{SqlState}
use Rattle.sql_types.specs.declared.state.SqlState.TheVariants.{InsufficientPrivilege, NotNullViolation, ProgramLimitExceeded, UniqueViolation}
use Rattle.sql_types.specs.Row.{Row}
use Rattle.sql_ast.specs.Layout.{Layout}
use Rattle.sql_ast.specs.Rows.{fits_record, KeepsLimits, key_size, record_size, max_row_key_length, max_value_length}
use Rattle.expressions.specs.Outcome.{Outcome}
use Rattle.expressions.specs.Stages.{◌>>=◌, require, each}
use Rattle.abstract_database.specs.Expressions.{when_true}
use Rattle.abstract_database.specs.Guards.{Guard}
use Rattle.abstract_database.specs.Changes.{is_admitted, keeps_not_null, checked_rows, has_double_key, with_rows}
use Rattle.guards.specs.Truths.{is_met}
use Rattle.table_rows.specs.NewRows.{all_admitted, new_rows_checked}

-- ---- one row

-- a guard that is true admits the row, and one that is not refuses it
pub admitted_is : (o : Outcome) → (o >>= λ value. require (when_true value true false) InsufficientPrivilege) ≡ (is_met o >>= λ met. require met InsufficientPrivilege)
admitted_is (Ok v) = refl
admitted_is (Err code) = refl

-- ---- limits

limits_of : (layout : Layout) (row : Row) → fits_record layout row ≡ true → KeepsLimits layout row
limits_of layout row e =
    let sizes = and_parts _ _ e in
    record { key = leb-true (key_size layout.key row) max_row_key_length sizes.0; others = leb-true (record_size layout.key row) max_value_length sizes.1 }

pub all_limits : (layout : Layout) (rows : List Row) → list_all (fits_record layout) rows ≡ true → AllByRecursion (KeepsLimits layout) rows
all_limits layout [] e = tt
all_limits layout (row ∷ rows) e = let parts = and_parts (fits_record layout row) (list_all (fits_record layout) rows) e in (limits_of layout row parts.0, all_limits layout rows parts.1)

-- ---- the stages

-- nothing is kept of what was admitted
abbrev done_with : List (Unit {0}) → Result (Unit {0}) SqlState
done_with us = Ok tt

admitted_units : (guard : Guard) (rows : List Row) → all_admitted guard rows ≡ (each (is_admitted guard) rows >>= done_with)
admitted_units guard [] = refl
admitted_units guard (row ∷ rows) = go (is_admitted guard row) (each (is_admitted guard) rows) (admitted_units guard rows)
  where
    go : (r : Result (Unit {0}) SqlState) (more : Result (List (Unit {0})) SqlState) → all_admitted guard rows ≡ (more >>= done_with) → (r >>= λ u. all_admitted guard rows) ≡ ((r >>= λ y. more >>= λ ys. Ok (y ∷ ys)) >>= done_with)
    go (Ok u) (Ok us) e = e
    go (Ok u) (Err code) e = e
    go (Err code) more e = refl

module _ (layout : Layout) (guard : Guard) (others new : List Row) where
  abbrev at_last : Result (List Row) SqlState
  at_last = require (not (has_double_key layout.key (others ++ new))) UniqueViolation >>= λ unique. Ok (with_rows layout.key new others)

  -- the stages up to the keys, and the keys
  pub checked_is : checked_rows layout guard others new ≡ (new_rows_checked layout guard new >>= λ checked. at_last)
  checked_is = go (each (is_admitted guard) new) (list_all (keeps_not_null layout.columns) new) (list_all (fits_record layout) new)
      ∙ sym (ap (λ r. (r >>= λ admitted. require (list_all (keeps_not_null layout.columns) new) NotNullViolation >>= λ not_null. require (list_all (fits_record layout) new) ProgramLimitExceeded) >>= λ checked. at_last) (admitted_units guard new))
    where
      go : (r : Result (List (Unit {0})) SqlState) (a b : Bool) → (r >>= λ admitted. require a NotNullViolation >>= λ not_null. require b ProgramLimitExceeded >>= λ sized. at_last)
          ≡ (((r >>= done_with) >>= λ admitted. require a NotNullViolation >>= λ not_null. require b ProgramLimitExceeded) >>= λ checked. at_last)
      go (Err code) a b = refl
      go (Ok us) true true = refl
      go (Ok us) true false = refl
      go (Ok us) false b = refl

-- what passed the stages
pub passed : (layout : Layout) (guard : Guard) (new : List Row) (x : Unit {0}) → new_rows_checked layout guard new ≡ Ok x → (list_all (keeps_not_null layout.columns) new ≡ true) × (list_all (fits_record layout) new ≡ true)
passed layout guard new x e = go (all_admitted guard new) (list_all (keeps_not_null layout.columns) new) (list_all (fits_record layout) new) e
  where
    go : (r : Result (Unit {0}) SqlState) (a b : Bool) → (r >>= λ admitted. require a NotNullViolation >>= λ not_null. require b ProgramLimitExceeded) ≡ Ok x → (a ≡ true) × (b ≡ true)
    go (Err code) a b e = cc
    go (Ok u) true true e = (refl, refl)
    go (Ok u) true false e = cc
    go (Ok u) false b e = cc
