-- Conditions and guards that fail on no row.
use Rattle.std.specs.Prelude.{◌≡◌, Bool, ◌&&◌, List, Ok}
use Rattle.std.specs.Borrow.{Bor}
use Rattle.std.specs.List.{list_all, AllByRecursion}
use Rattle.sql_types.specs.declared.value.Value.{Value}
use Rattle.sql_types.specs.Row.{Row}
use Rattle.expressions.specs.Infallible.{has_no_arithmetic, NeverFails}
use Rattle.expressions.specs.Types.{TypedTerm}
use Rattle.abstract_database.specs.Guards.{Guard}
use Rattle.guards.specs.declared.guard.Formula.{Formula}

-- ---- conditions

abbrev pub are_infallible : List TypedTerm → Bool
are_infallible conditions = list_all (λ c. has_no_arithmetic c.term) conditions

-- no condition fails on any row
abbrev pub AreInfallible : List TypedTerm → Type 0
AreInfallible conditions = AllByRecursion (λ c. NeverFails c.term) conditions

-- ---- guards

abbrev pub are_lent_infallible : List (Bor TypedTerm) → Bool
are_lent_infallible conditions = list_all (λ c. has_no_arithmetic c.now.term) conditions

abbrev pub is_formula_infallible : Formula → Bool
is_formula_infallible f = are_lent_infallible f.permissive && are_lent_infallible f.restrictive

abbrev pub are_formulas_infallible : List Formula → Bool
are_formulas_infallible formulas = list_all is_formula_infallible formulas

-- the guard has a value on each row
abbrev pub GuardNeverFails : Guard → Type 0
GuardNeverFails guard = (row : Row) → (v : Value) × (guard row ≡ Ok v)
