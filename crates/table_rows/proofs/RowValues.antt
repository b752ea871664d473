-- The values of expressions on rows.
use Rattle.std.proofs.Common.{◌≡◌, ℕ, zero, suc, ◌+◌, List, [], ◌∷◌, ◌++◌, map, length, get_or, Result, Ok, Err, refl, sym, ap, ◌∙◌, arith}
use Rattle.std.specs.List.{range_with_len}
use Rattle.std.proofs.lemmas.List.FromFn.{fill_by_all, map-range_with_len_more}
use Rattle.std.proofs.Math.Path.{fun_ext}
use Rattle.sql_types.specs.declared.state.SqlState.{SqlState}
use Rattle.sql_types.specs.declared.value.Value.{Value}
use Rattle.sql_types.specs.declared.value.Value.TheVariants.{Null}
use Rattle.sql_types.specs.Row.{Row, value_at}
use Rattle.sql_ast.specs.declared.columns.Column.{Column}
use Rattle.expressions.specs.Meaning.{UserNames}
use Rattle.expressions.specs.Rows.{value_on}
use Rattle.expressions.specs.Stages.{◌>>=◌, each}
use Rattle.expressions.specs.Types.{TypedTerm}
use Rattle.store.specs.declared.fault.Fault.TheVariants.{Memory, Device, Damaged}
use Rattle.row_codec.specs.InPlace.{table_cell}
use Rattle.abstract_database.specs.Expressions.{bound_value}
use Rattle.abstract_database.specs.Changes.{value_beside, replaced_from, replaced}
use Rattle.guards.specs.Guards.{cells_of}
use Rattle.store.specs.declared.stop.StatementError.{StatementError}
use Rattle.store.specs.declared.stop.StatementError.TheVariants.{Refused, Failed}
use Rattle.table_rows.specs.Failures.{Gives}
use Rattle.table_rows.specs.Targets.{terms_in, row_so_wide}

-- ---- rows as expressions see them

in_place_at : (row : Row) (table column : ℕ) → table_cell row table column ≡ cells_of (row ∷ []) table column
in_place_at row zero column = refl
in_place_at row (suc table) column = refl

-- a row in place is the row of the first table
pub in_place : (row : Row) → table_cell row ≡ cells_of (row ∷ [])
in_place row = fun_ext (λ table. fun_ext (λ column. in_place_at row table column))

-- cells that are null are those of no row
pub no_row : (cells : ℕ → ℕ → Value) → ((table column : ℕ) → cells table column ≡ Null) → cells ≡ cells_of []
no_row cells e = fun_ext (λ table. fun_ext (λ column. e table column))

nothing_at : (table column : ℕ) → table_cell [] table column ≡ Null
nothing_at zero column = refl
nothing_at (suc table) column = refl

-- those of the row of no columns are
pub nothing_there : (row : Row) → row ≡ [] → (table column : ℕ) → table_cell row table column ≡ Null
nothing_there row none table column = ap (λ (r : Row). table_cell r table column) none ∙ nothing_at table column

each_bound : (users : UserNames) (rows : List Row) (list : List TypedTerm) → each (value_on (cells_of rows) users) list ≡ each (bound_value users rows) (terms_in list)
each_bound users rows [] = refl
each_bound users rows (t ∷ ts) = ap (λ r. bound_value users rows t.term >>= λ y. r >>= λ ys. Ok (y ∷ ys)) (each_bound users rows ts)

pub values_bound : (cells : ℕ → ℕ → Value) (users : UserNames) (rows : List Row) (list : List TypedTerm) → cells ≡ cells_of rows → each (value_on cells users) list ≡ each (bound_value users rows) (terms_in list)
values_bound cells users rows list e = ap (λ c. each (value_on c users) list) e ∙ each_bound users rows list

-- ---- rows of values

-- a failure of the first stage is one of both
pub first_failed : {A B : Type 0} (failure : StatementError) (meant whole : Result A SqlState) (go : A → Result B SqlState) → meant ≡ whole → (let r : Result A StatementError = Err failure in Gives r meant)
    → (let r : Result B StatementError = Err failure in Gives r (whole >>= go))
first_failed (Refused code) meant whole go e g = ap (λ r. r >>= go) (sym e ∙ g)
first_failed (Failed Memory) meant whole go e g = tt
first_failed (Failed Device) meant whole go e g = g
first_failed (Failed Damaged) meant whole go e g = g

-- a value of the first stage goes to the second
pub then_is : {A B : Type 0} (meant whole : Result A SqlState) (go : A → B) (x : A) (y : B) → meant ≡ whole → meant ≡ Ok x → y ≡ go x → (whole >>= λ a. Ok (go a)) ≡ Ok y
then_is meant whole go x y e is to = ap (λ r. r >>= λ a. Ok (go a)) (sym e ∙ is) ∙ ap (λ b. Ok b) (sym to)

-- ---- new values beside their columns

-- each value is the one beside its index
each_replaced : (cell : ℕ → Value) (columns : List ℕ) (values : List Value) (start width : ℕ) → replaced_from start columns values (map cell (range_with_len start width)) ≡ map (λ i. value_beside i columns values (cell i)) (range_with_len start width)
each_replaced cell columns values start zero = refl
each_replaced cell columns values start (suc width) = ap (λ vs. value_beside start columns values (cell start) ∷ vs) (each_replaced cell columns values (start + 1) width)

-- all columns have their new values
pub all_replaced : (cell : ℕ → ℕ → Value) (columns : List ℕ) (values new : List Value) (width : ℕ) → new ≡ map (λ i. value_beside i columns values (cell 0 i)) (range_with_len 0 width) → new ≡ replaced columns values (row_so_wide cell width)
all_replaced cell columns values new width e = e ∙ sym (each_replaced (cell 0) columns values 0 width)

-- cells that are null make a row of nulls
nulls_wide : (cs : List Column) (start : ℕ) → map (λ i. Null) (range_with_len start (length cs)) ≡ map (λ (c : Column). Null) cs
nulls_wide [] start = refl
nulls_wide (c ∷ cs) start = ap (λ vs. Null ∷ vs) (nulls_wide cs (start + 1))

pub nulls_so_wide : (cells : ℕ → ℕ → Value) (cs : List Column) → ((table column : ℕ) → cells table column ≡ Null) → row_so_wide cells (length cs) ≡ map (λ (c : Column). Null) cs
nulls_so_wide cells cs none = ap (λ (cell : ℕ → Value). map cell (range_with_len 0 (length cs))) (fun_ext (λ column. none 0 column)) ∙ nulls_wide cs 0

at_is : (row : Row) (i : ℕ) → value_at row i ≡ get_or row i Null
at_is [] zero = refl
at_is [] (suc i) = refl
at_is (v ∷ vs) zero = refl
at_is (v ∷ vs) (suc i) = at_is vs i

-- the cells of a row make the row
pub row_wide : (row : Row) (width : ℕ) → length row ≡ width → row_so_wide (table_cell row) width ≡ row
row_wide row width e = sym (fill_by_all (value_at row) row width Null e (λ k lt. sym (at_is row k)))

-- one column more has its new value
pub one_replaced : (cell : ℕ → Value) (columns : List ℕ) (values new : List Value) (i : ℕ) (old value : Value) → new ≡ map (λ j. value_beside j columns values (cell j)) (range_with_len 0 i) → old ≡ cell i → value ≡ value_beside i columns values old
    → new ++ value ∷ [] ≡ map (λ j. value_beside j columns values (cell j)) (range_with_len 0 (i + 1))
one_replaced cell columns values new i old value before was is =
    let f : ℕ → Value = λ j. value_beside j columns values (cell j) in
    ap (λ vs. vs ++ value ∷ []) before
    ∙ ap (λ v. map f (range_with_len 0 i) ++ v ∷ []) (is ∙ ap (λ v. value_beside i columns values v) was)
    ∙ sym (map-range_with_len_more f 0 i i (omega arith))
