-- A guard whose conditions have no arithmetic has a value on each row.
use Rattle.std.proofs.Common.{◌≡◌, Bool, true, false, ◌&&◌, List, [], ◌∷◌, fold, Ok, refl, ap, ◌∙◌}
use Rattle.std.specs.Borrow.{Bor}
use Rattle.std.specs.List.{list_all}
use Rattle.sql_types.specs.declared.value.Value.{Value}
use Rattle.sql_types.specs.declared.value.Value.TheVariants.{Null, Int, Text, Bool as Boolean}
use Rattle.sql_ast.specs.declared.scope.ColumnIndex.{ColumnIndex}
use Rattle.sql_ast.specs.Term.{Term, conjunction, disjunction}
use Rattle.expressions.specs.Outcome.{Outcome}
use Rattle.expressions.specs.Meaning.{UserNames}
use Rattle.expressions.specs.Rows.{cell_at}
use Rattle.expressions.specs.Stages.{◌>>=◌}
use Rattle.expressions.specs.Infallible.{has_no_arithmetic}
use Rattle.expressions.specs.Types.{TypedTerm}
use Rattle.abstract_database.specs.Expressions.{when_true}
use Rattle.abstract_database.specs.Guards.{any_of, formula}
use Rattle.guards.specs.declared.guard.Formula.{Formula}
use Rattle.guards.specs.Guards.{Cells, terms, formula_value, guard_value, cells_of, row_guard}
use Rattle.row_codec.proofs.Layouts.{and_parts}
use Rattle.key_ranges.specs.Infallible.{are_lent_infallible, is_formula_infallible, are_formulas_infallible, GuardNeverFails}
use Rattle.expressions.proofs.Infallibility.{HasValue, infallible_value}

both_are : (a b : Bool) → a ≡ true → b ≡ true → (a && b) ≡ true
both_are a b h k = rw (h, k) refl

-- whether no expression has arithmetic
abbrev all_infallible : List (Term ColumnIndex) → Bool
all_infallible ts = list_all has_no_arithmetic ts

lent_infallible : (cs : List (Bor TypedTerm)) → are_lent_infallible cs ≡ true → all_infallible (terms cs) ≡ true
lent_infallible [] h = refl
lent_infallible (c ∷ cs) h = let t = and_parts (has_no_arithmetic c.now.term) (are_lent_infallible cs) h in both_are (has_no_arithmetic c.now.term) (all_infallible (terms cs)) t.0 (lent_infallible cs t.1)

and_infallible : (t : Term ColumnIndex) (ts : List (Term ColumnIndex)) → has_no_arithmetic t ≡ true → all_infallible ts ≡ true → has_no_arithmetic (fold conjunction t ts) ≡ true
and_infallible t [] h k = h
and_infallible t (r ∷ rs) h k = let both = and_parts (has_no_arithmetic r) (all_infallible rs) k in and_infallible (conjunction t r) rs (both_are (has_no_arithmetic t) (has_no_arithmetic r) h both.0) both.1

or_infallible : (t : Term ColumnIndex) (ts : List (Term ColumnIndex)) → has_no_arithmetic t ≡ true → all_infallible ts ≡ true → has_no_arithmetic (fold disjunction t ts) ≡ true
or_infallible t [] h k = h
or_infallible t (r ∷ rs) h k = let both = and_parts (has_no_arithmetic r) (all_infallible rs) k in or_infallible (disjunction t r) rs (both_are (has_no_arithmetic t) (has_no_arithmetic r) h both.0) both.1

any_infallible : (ts : List (Term ColumnIndex)) → all_infallible ts ≡ true → has_no_arithmetic (any_of ts) ≡ true
any_infallible [] h = refl
any_infallible (t ∷ ts) h = let both = and_parts (has_no_arithmetic t) (all_infallible ts) h in or_infallible t ts both.0 both.1

pub formula_there : (users : UserNames) (f : Formula) (cells : Cells) → is_formula_infallible f ≡ true → HasValue (formula_value users f cells)
formula_there users f cells h =
    let both = and_parts (are_lent_infallible f.permissive) (are_lent_infallible f.restrictive) h in
    infallible_value (cell_at cells) users (formula (terms f.permissive) (terms f.restrictive))
    (and_infallible (any_of (terms f.permissive)) (terms f.restrictive) (any_infallible (terms f.permissive) (lent_infallible f.permissive both.0)) (lent_infallible f.restrictive both.1))

then_there : (v : Value) (o : Outcome) → HasValue o → HasValue (when_true v o (Ok v))
then_there Null o h = (Null, refl)
then_there (Int n) o h = (Int n, refl)
then_there (Text t) o h = (Text t, refl)
then_there (Boolean true) o h = h
then_there (Boolean false) o h = (Boolean false, refl)

guard_there : (users : UserNames) (fs : List Formula) (cells : Cells) → are_formulas_infallible fs ≡ true → HasValue (guard_value users fs cells)
guard_there users [] cells h = (Boolean true, refl)
guard_there users (f ∷ fs) cells h =
    let both = and_parts (is_formula_infallible f) (are_formulas_infallible fs) h in
    let first = formula_there users f cells both.0 in
    let later = then_there first.0 (guard_value users fs cells) (guard_there users fs cells both.1) in
    (later.0, ap (λ o. o >>= λ v. when_true v (guard_value users fs cells) (Ok v)) first.1 ∙ later.1)

pub infallible_guard : (fs : List Formula) → are_formulas_infallible fs ≡ true → (users : UserNames) → GuardNeverFails (row_guard users fs)
infallible_guard fs h users row = guard_there users fs (cells_of (row ∷ [])) h
