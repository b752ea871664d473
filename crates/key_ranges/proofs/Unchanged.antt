-- Rows outside a harmless range change no answer.
use Rattle.std.proofs.Common.{◌≡◌, ℕ, zero, suc, Bool, true, false, if◌then◌else◌, List, [], ◌∷◌, ◌++◌, map, filter, length, slice_get, Some, None, Result, Ok, Err, refl, sym, ap, subst, ◌∙◌}
use Rattle.std.proofs.lemmas.List.{map-append}
use Rattle.std.specs.Prelude.{IsOk}
use Rattle.std.specs.Borrow.{Bor}
use Rattle.std.specs.List.{AllByRecursion}
use Rattle.sql_types.specs.declared.value.Value.{Value}
use Rattle.sql_types.specs.declared.value.Value.TheVariants.{Null, Int, Text, Bool as Boolean}
use Rattle.sql_types.specs.declared.state.SqlState.{SqlState}
use Rattle.sql_types.specs.Row.{Row, value_at}
use Rattle.sql_ast.specs.Layout.{Layout}
use Rattle.sql_ast.specs.Fits.{FitsTable}
use Rattle.sql_ast.specs.declared.scope.ColumnIndex.{ColumnIndex}
use Rattle.sql_ast.specs.Term.{Term}
use Rattle.expressions.specs.Outcome.{Outcome, with_value}
use Rattle.expressions.specs.Meaning.{UserNames, value_of, and_then}
use Rattle.expressions.specs.Stages.{◌>>=◌, each}
use Rattle.expressions.specs.Truths.{true_value}
use Rattle.expressions.specs.Types.{TypedTerm}
use Rattle.abstract_database.specs.Expressions.{cell_in, bound_value, all_of, when_true, passing}
use Rattle.abstract_database.specs.Guards.{Guard}
use Rattle.abstract_database.specs.Queries.{BoundQuery, Combination, Source, product, condition_value, listed, query}
use Rattle.abstract_database.specs.Changes.{Chosen}
use Rattle.guards.specs.Truths.{is_met}
use Rattle.key_ranges.specs.declared.range.KeyRange.{KeyRange}
use Rattle.key_ranges.specs.Infallible.{AreInfallible, GuardNeverFails}
use Rattle.stored_database.specs.RecordFormat.{row_record}
use Rattle.key_ranges.specs.Ranges.{is_in, is_in_any, is_inside, is_inside_any, HasKeysBehind, IsBehind}
use Rattle.key_ranges.specs.Laws.{IsHarmless, AreGuardsInfallible, HaveKeysBehind, RangesLoseNothing, LookUpsLoseNothing, OutsideRowsAreNotChosen, OutsideRowsAreNotMet}
use Rattle.expressions.proofs.Infallibility.{HasValue, and_value_of}
use Rattle.key_ranges.proofs.Products.{RefusesBehind, RefusesOutside, same_kept, same_kept_behind}

-- ---- stages in which nothing fails

-- whether an outcome is true
abbrev pub is_true : Outcome → Bool
is_true (Ok v) = when_true v true false
is_true (Err code) = false

passed_by : {A : Type 0} (x : A) (ys : List A) (v : Value) → when_true v (x ∷ ys) ys ≡ (if when_true v true false then x ∷ ys else ys)
passed_by x ys Null = refl
passed_by x ys (Int n) = refl
passed_by x ys (Text t) = refl
passed_by x ys (Boolean true) = refl
passed_by x ys (Boolean false) = refl

-- where nothing fails, a stage is a filter
pub passes : {A : Type 0} (p : A → Outcome) → ((a : A) → HasValue (p a)) → (xs : List A) → passing p xs ≡ Ok (filter (λ x. is_true (p x)) xs)
passes p h [] = refl
passes {A} p h (x ∷ xs) =
    let value = h x in
    ap (λ o. o >>= λ v. passing p xs >>= λ ys. Ok (when_true v (x ∷ ys) ys)) value.1
    ∙ ap (λ r. r >>= λ ys. Ok (when_true value.0 (x ∷ ys) ys)) (passes p h xs)
    ∙ ap (λ l. Ok l) (passed_by x (filter (λ x. is_true (p x)) xs) value.0)
    ∙ ap (λ b. Ok (if b then x ∷ filter (λ x. is_true (p x)) xs else filter (λ x. is_true (p x)) xs)) (sym (ap is_true value.1))

-- ---- infallible conditions joined by AND

ok_value : (o : Outcome) → IsOk o → HasValue o
ok_value (Ok v) h = (v, refl)
ok_value (Err code) h = cc

all_value_from : (o : Outcome) (os : List Outcome) → HasValue o → AllByRecursion HasValue os → HasValue (all_of (o ∷ os))
all_value_from o [] h all = h
all_value_from o (p ∷ os) h all = all_value_from (with_value o (λ v. and_then v p)) os (and_value_of o p h all.0) all.1

pub all_value : (os : List Outcome) → AllByRecursion HasValue os → HasValue (all_of os)
all_value [] all = (true_value, refl)
all_value (o ∷ os) all = all_value_from o os all.0 all.1

-- the outcomes of conditions
abbrev pub outcomes : UserNames → Combination → List TypedTerm → List Outcome
outcomes users c ts = map (λ t. value_of (cell_in c) users t.term) ts

pub each_value : (users : UserNames) (c : Combination) (ts : List TypedTerm) → AreInfallible ts → AllByRecursion HasValue (outcomes users c ts)
each_value users c [] infallible = tt
each_value users c (t ∷ ts) infallible = (ok_value (value_of (cell_in c) users t.term) (infallible.0 (cell_in c) users), each_value users c ts infallible.1)

pub same_outcomes : (users : UserNames) (c : Combination) (ts : List TypedTerm) → map (bound_value users c) (map (λ t. t.term) ts) ≡ outcomes users c ts
same_outcomes users c [] = refl
same_outcomes users c (t ∷ ts) = ap (λ os. value_of (cell_in c) users t.term ∷ os) (same_outcomes users c ts)

pub condition_is : (users : UserNames) (terms : List (Term ColumnIndex)) (ts : List TypedTerm) → terms ≡ map (λ t. t.term) ts → (c : Combination) → condition_value users terms c ≡ all_of (outcomes users c ts)
condition_is users terms ts same c = ap (λ list. all_of (map (bound_value users c) list)) same ∙ ap all_of (same_outcomes users c ts)

value_there : (o p : Outcome) → o ≡ p → HasValue p → HasValue o
value_there o p e h = (h.0, e ∙ h.1)

pub true_there : (o : Outcome) → is_true o ≡ true → o ≡ Ok true_value
true_there (Err code) h = cc
true_there (Ok Null) h = cc
true_there (Ok (Int n)) h = cc
true_there (Ok (Text t)) h = cc
true_there (Ok (Boolean true)) h = refl
true_there (Ok (Boolean false)) h = cc

module _ (id : ℕ) (layout : Layout) (table : ℕ) (users : UserNames) (guard : Guard) (conditions : List TypedTerm) (range : KeyRange) (harmless : IsHarmless id layout table users guard conditions range) where
  abbrev inside : Row → Bool
  inside row = is_inside id layout range row

  -- where a table's row is outside the range, the conditions are not true
  pub not_true : (c : Combination) (row : Row) → ((index : ℕ) → cell_in c (record { table = table; column = index }) ≡ value_at row index) → FitsTable layout row → inside row ≡ false
      → is_true (all_of (outcomes users c conditions)) ≡ false
  not_true c row beside fits out = go (is_true (all_of (outcomes users c conditions))) refl
    where
      go : (b : Bool) → b ≡ is_true (all_of (outcomes users c conditions)) → b ≡ false
      go false e = refl
      go true e =
          let there : inside row ≡ true = harmless.keys row (cell_in c) fits beside (true_there (all_of (outcomes users c conditions)) (sym e)) in
          let wrong : inside row ≡ false = out in
          cc

-- ---- SELECT

-- the rows of a table that its guard lets pass
abbrev seen : Source → List Row
seen s = filter (λ row. is_true (s.guard row)) s.rows

all_seen : (sources : List Source) → AreGuardsInfallible sources → each (λ s. passing s.guard s.rows) sources ≡ Ok (map seen sources)
all_seen [] infallible = refl
all_seen (s ∷ sources) infallible =
    ap (λ r. r >>= λ y. each (λ s. passing s.guard s.rows) sources >>= λ ys. Ok (y ∷ ys)) (passes s.guard infallible.0 s.rows)
    ∙ ap (λ r. r >>= λ ys. Ok (seen s ∷ ys)) (all_seen sources infallible.1)

infallible_between : (before after : List Source) (s : Source) → AreGuardsInfallible before → AreGuardsInfallible after → GuardNeverFails s.guard → AreGuardsInfallible (before ++ s ∷ after)
infallible_between [] after s b a h = (h, a)
infallible_between (t ∷ before) after s b a h = (b.0, infallible_between before after s b.1 a h)

same_length : (sources : List Source) → length (map seen sources) ≡ length sources
same_length [] = refl
same_length (s ∷ sources) = ap suc (same_length sources)

row_there : (front : Combination) (row : Row) (rest : Combination) → slice_get (front ++ row ∷ rest) (length front) ≡ Some row
row_there [] row rest = refl
row_there (first ∷ front) row rest = row_there front row rest

pub cell_there : (front : Combination) (row : Row) (rest : Combination) (table index : ℕ) → length front ≡ table → cell_in (front ++ row ∷ rest) (record { table = table; column = index }) ≡ value_at row index
cell_there front row rest table index long =
    let there : slice_get (front ++ row ∷ rest) table ≡ Some row = subst (λ n. slice_get (front ++ row ∷ rest) n ≡ Some row) long (row_there front row rest) in
    rw there refl

-- the answer over tables in which nothing fails
answer_is : (sources : List Source) (users : UserNames) (q : BoundQuery) → AreGuardsInfallible sources → ((c : Combination) → HasValue (condition_value users q.conditions c))
    → query sources users q ≡ listed users q.list q.keys q.limit (filter (λ c. is_true (condition_value users q.conditions c)) (product (map seen sources)))
answer_is sources users q infallible there =
    ap (λ r. r >>= λ visible. passing (condition_value users q.conditions) (product visible) >>= λ chosen. listed users q.list q.keys q.limit chosen) (all_seen sources infallible)
    ∙ ap (λ r. r >>= λ chosen. listed users q.list q.keys q.limit chosen) (passes (condition_value users q.conditions) there (product (map seen sources)))

pub ranges_lose_nothing : RangesLoseNothing
ranges_lose_nothing id layout users before after guard conditions range q rows harmless infallible_before infallible_after same fit =
    answer_is (before ++ narrow ∷ after) users q (infallible_between before after narrow infallible_before infallible_after harmless.guard_infallible) there
    ∙ ap (listed users q.list q.keys q.limit)
    (ap (λ tables. filter meets (product tables)) (map-append seen before (narrow ∷ after))
    ∙ same_kept (FitsTable layout) inside_range sees (map seen before) (map seen after) meets refuses rows fit
    ∙ ap (λ tables. filter meets (product tables)) (sym (map-append seen before (all ∷ after))))
    ∙ sym (answer_is (before ++ all ∷ after) users q (infallible_between before after all infallible_before infallible_after harmless.guard_infallible) there)
  where
    inside_range : Row → Bool
    inside_range row = is_inside id layout range row

    sees : Row → Bool
    sees row = is_true (guard row)

    narrow : Source
    narrow = record { guard = guard; rows = filter inside_range rows }

    all : Source
    all = record { guard = guard; rows = rows }

    meets : Combination → Bool
    meets c = is_true (condition_value users q.conditions c)

    there : (c : Combination) → HasValue (condition_value users q.conditions c)
    there c = value_there (condition_value users q.conditions c) (all_of (outcomes users c conditions)) (condition_is users q.conditions conditions same c) (all_value (outcomes users c conditions) (each_value users c conditions harmless.infallible))

    refuses : RefusesOutside (FitsTable layout) inside_range sees (length (map seen before)) meets
    refuses front row rest long fits out =
        ap is_true (condition_is users q.conditions conditions same (front ++ row ∷ rest))
        ∙ not_true id layout (length before) users guard conditions range harmless (front ++ row ∷ rest) row
        (λ index. cell_there front row rest (length before) index (long ∙ same_length before)) fits out

-- ---- look-ups behind known rows

-- the rows of the tables before stand in front of a combination
before_row : (front : List (Bor Row)) (row : Row) (rest : Combination) (n : ℕ) (r : Bor Row) → slice_get front n ≡ Some r → slice_get (map (λ f. f.now) front ++ row ∷ rest) n ≡ Some r.now
before_row [] row rest n r e = cc
before_row (f ∷ front) row rest zero r e = cc
before_row (f ∷ front) row rest (suc n) r e = before_row front row rest n r e

behind_rows : (front : List (Bor Row)) (row : Row) (rest : Combination) → IsBehind front (cell_in (map (λ f. f.now) front ++ row ∷ rest))
behind_rows front row rest index r e = rw (before_row front row rest index.table r e) refl

lent_length : (front : List (Bor Row)) → length (map (λ f. f.now) front) ≡ length front
lent_length [] = refl
lent_length (f ∷ front) = ap suc (lent_length front)

-- keys that a range has behind known rows, where all its keys are among those of several ranges
pub keys_among : (id : ℕ) (layout : Layout) (front : List (Bor Row)) (users : UserNames) (conditions : List TypedTerm) (range : KeyRange) (ranges : List KeyRange) → HasKeysBehind id layout (length front) front users conditions range
    → ((key : List ℕ) → is_in range key ≡ true → is_in_any ranges key ≡ true) → HaveKeysBehind id layout users conditions ranges (map (λ r. r.now) front)
keys_among id layout front users conditions range ranges has among row rest fits met =
    among (row_record id layout row).0
    (has row (cell_in (map (λ r. r.now) front ++ row ∷ rest)) fits (λ index. cell_there (map (λ r. r.now) front) row rest (length front) index (lent_length front)) (behind_rows front row rest) met)

same_seen : (x y : List (List Row)) → (let o : Result (List (List Row)) SqlState = Ok x in o) ≡ Ok y → x ≡ y
same_seen x y e = cc

pub look_ups_lose_nothing : LookUpsLoseNothing
look_ups_lose_nothing id layout users before after front guard conditions ranges q rows harmless infallible_before infallible_after are same fit =
    answer_is (before ++ narrow ∷ after) users q (infallible_between before after narrow infallible_before infallible_after harmless.guard_infallible) there
    ∙ ap (listed users q.list q.keys q.limit)
    (ap (λ tables. filter meets (product tables)) (map-append seen before (narrow ∷ after))
    ∙ ap (λ tables. filter meets (product (tables ++ seen narrow ∷ map seen after))) seen_before
    ∙ same_kept_behind (FitsTable layout) inside_any sees front (map seen after) meets (refuses_all (product front) harmless.keys) rows fit
    ∙ ap (λ tables. filter meets (product (tables ++ seen all ∷ map seen after))) (sym seen_before)
    ∙ ap (λ tables. filter meets (product tables)) (sym (map-append seen before (all ∷ after))))
    ∙ sym (answer_is (before ++ all ∷ after) users q (infallible_between before after all infallible_before infallible_after harmless.guard_infallible) there)
  where
    inside_any : Row → Bool
    inside_any row = is_inside_any id layout ranges row

    sees : Row → Bool
    sees row = is_true (guard row)

    narrow : Source
    narrow = record { guard = guard; rows = filter inside_any rows }

    all : Source
    all = record { guard = guard; rows = rows }

    seen_before : map seen before ≡ front
    seen_before = same_seen (map seen before) front (sym (all_seen before infallible_before) ∙ are)

    meets : Combination → Bool
    meets c = is_true (condition_value users q.conditions c)

    there : (c : Combination) → HasValue (condition_value users q.conditions c)
    there c = value_there (condition_value users q.conditions c) (all_of (outcomes users c conditions)) (condition_is users q.conditions conditions same c) (all_value (outcomes users c conditions) (each_value users c conditions harmless.infallible))

    refuses : (c : Combination) → HaveKeysBehind id layout users conditions ranges c → RefusesBehind (FitsTable layout) inside_any sees meets c
    refuses c keys row rest fits out = ap is_true (condition_is users q.conditions conditions same (c ++ row ∷ rest)) ∙ go (is_true (all_of (outcomes users (c ++ row ∷ rest) conditions))) refl
      where
        go : (b : Bool) → b ≡ is_true (all_of (outcomes users (c ++ row ∷ rest) conditions)) → b ≡ false
        go false e = refl
        go true e =
            let there : inside_any row ≡ true = keys row rest fits (true_there (all_of (outcomes users (c ++ row ∷ rest) conditions)) (sym e)) in
            let wrong : inside_any row ≡ false = out in
            cc

    refuses_all : (cs : List Combination) → AllByRecursion (HaveKeysBehind id layout users conditions ranges) cs → AllByRecursion (RefusesBehind (FitsTable layout) inside_any sees meets) cs
    refuses_all [] keys = tt
    refuses_all (c ∷ cs) keys = (refuses c keys.0, refuses_all cs keys.1)

-- ---- UPDATE and DELETE

abbrev then_becomes : (Row → Result Row SqlState) → Row → Value → Result Chosen SqlState
then_becomes becomes row chosen = when_true chosen (becomes row >>= λ r. Ok (Some r)) (Ok None) >>= λ new. Ok (record { row = row; new = new })

abbrev stays : Row → Result Chosen SqlState
stays row = Ok (record { row = row; new = None })

not_chosen : (becomes : Row → Result Row SqlState) (row : Row) (v : Value) → is_true (Ok v) ≡ false → then_becomes becomes row v ≡ stays row
not_chosen becomes row Null h = refl
not_chosen becomes row (Int n) h = refl
not_chosen becomes row (Text t) h = refl
not_chosen becomes row (Boolean true) h = cc
not_chosen becomes row (Boolean false) h = refl

by_guard : (becomes : Row → Result Row SqlState) (row : Row) (v : Value) (o : Outcome) → HasValue o → is_true o ≡ false
    → (when_true v o (Ok (Boolean false)) >>= λ chosen. then_becomes becomes row chosen) ≡ stays row
by_guard becomes row Null o h k = refl
by_guard becomes row (Int n) o h k = refl
by_guard becomes row (Text t) o h k = refl
by_guard becomes row (Boolean false) o h k = refl
by_guard becomes row (Boolean true) o h k =
    ap (λ r. r >>= λ chosen. then_becomes becomes row chosen) h.1
    ∙ not_chosen becomes row h.0 (sym (ap is_true h.1) ∙ k)

pub outside_rows_are_not_chosen : OutsideRowsAreNotChosen
outside_rows_are_not_chosen id layout users guard condition range becomes row harmless fits out =
    let value = harmless.guard_infallible row in
    let o : Outcome = value_of (cell_in (row ∷ [])) users condition.term in
    ap (λ r. r >>= λ visible. when_true visible o (Ok (Boolean false)) >>= λ chosen. then_becomes becomes row chosen) value.1
    ∙ by_guard becomes row value.0 o (ok_value o (harmless.infallible.0 (cell_in (row ∷ [])) users)) (not_true id layout 0 users guard (condition ∷ []) range harmless (row ∷ []) row (λ index. refl) fits out)

met_by_guard : (v : Value) (o : Outcome) → HasValue o → is_true o ≡ false → (is_met (Ok v) >>= λ visible. if visible then is_met o else Ok false) ≡ Ok false
met_by_guard Null o h k = refl
met_by_guard (Int n) o h k = refl
met_by_guard (Text t) o h k = refl
met_by_guard (Boolean false) o h k = refl
met_by_guard (Boolean true) o h k = ap is_met h.1 ∙ ap (λ b. Ok b) (sym (ap is_true h.1) ∙ k)

pub outside_rows_are_not_met : OutsideRowsAreNotMet
outside_rows_are_not_met id layout users guard condition range row harmless fits out =
    let value = harmless.guard_infallible row in
    let o : Outcome = value_of (cell_in (row ∷ [])) users condition.term in
    ap (λ r. is_met r >>= λ visible. if visible then is_met o else Ok false) value.1
    ∙ met_by_guard value.0 o (ok_value o (harmless.infallible.0 (cell_in (row ∷ [])) users)) (not_true id layout 0 users guard (condition ∷ []) range harmless (row ∷ []) row (λ index. refl) fits out)
