-- The columns that INSERT and UPDATE give values to: names first, each of them once.
use Rattle.std.proofs.Common.{◌≡◌, ◌⊎◌, ◌∙◌, ℕ, Bool, not, List, Result, Ok, Err, sym, ap, inl, inr}
use Rattle.std.specs.List.{list_all}
use Rattle.sql_types.specs.declared.state.Refusal.{Refusal}
use Rattle.sql_types.specs.declared.state.SqlState.{SqlState}
use Rattle.sql_types.specs.declared.state.SqlState.TheVariants.{OutOfMemory, SyntaxError}
use Rattle.sql_ast.specs.declared.statement.Insert.{Insert}
use Rattle.sql_ast.specs.Layout.{Layout}
use Rattle.expressions.specs.Stages.{◌>>=◌, require}
use Rattle.abstract_database.specs.Lists.{TheName, has_double}
use Rattle.abstract_database.specs.Checks.{counts_fit, target_columns}

-- what follows names, which stand in a list of the statement
module _ {A : Type 0} (code : SqlState) (later : Result A SqlState) (names written : List TheName) (same : names ≡ written) where
  abbrev behind : Result (Unit {0}) SqlState → Result A SqlState
  behind a = a >>= λ once. later

  to_later : (a : Result (Unit {0}) SqlState) → require (not (has_double names)) code ≡ a → behind (require (not (has_double written)) code) ≡ behind a
  to_later a e = ap (λ l. behind (require (not (has_double l)) code)) (sym same) ∙ ap behind e

  pub names_refused : (x : Refusal) → (x.0 ≡ OutOfMemory) ⊎ (require (not (has_double names)) code ≡ Err x.0) → (x.0 ≡ OutOfMemory) ⊎ (behind (require (not (has_double written)) code) ≡ Err x.0)
  names_refused x (inl e) = inl e
  names_refused x (inr e) = inr (to_later (Err x.0) e)

  pub each_once : (u : Unit {0}) → require (not (has_double names)) code ≡ Ok u → behind (require (not (has_double written)) code) ≡ later
  each_once u e = to_later (Ok u) e

-- whether each row has a value for each column, and then the columns
module _ (layout : Layout) (s : Insert) where
  abbrev pub counted : Bool → Result (List ℕ) SqlState
  counted fit = require fit SyntaxError >>= λ u. target_columns layout s

  pub columns_counted : (fit : Bool) → list_all (counts_fit layout s.columns) s.rows ≡ fit → counted (list_all (counts_fit layout s.columns) s.rows) ≡ counted fit
  columns_counted fit e = ap counted e
