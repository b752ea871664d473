-- A query over one table, row by row.
use Rattle.std.proofs.Common.{◌≡◌, ℕ, true, false, List, [], ◌∷◌, ◌++◌, map, Result, Ok, Err, refl, sym, ap, ◌∙◌, subst, ◌⊎◌, inl, inr}
use Rattle.std.specs.List.{AllByRecursion}
use Rattle.sql_types.specs.Row.{Row}
use Rattle.sql_types.specs.declared.state.SqlState.{SqlState}
use Rattle.sql_types.specs.declared.value.Value.{Value}
use Rattle.sql_types.specs.declared.value.Value.TheVariants.{Null, Int, Text, Bool as Boolean}
use Rattle.expressions.specs.Meaning.{UserNames}
use Rattle.expressions.specs.Stages.{◌>>=◌}
use Rattle.expressions.proofs.Results.{bind_ok, ok_inside}
use Rattle.abstract_database.specs.Expressions.{passing, when_true}
use Rattle.abstract_database.specs.Guards.{Guard}
use Rattle.abstract_database.specs.Queries.{Combination, product, query}
use Rattle.guards.specs.Truths.{is_met}
use Rattle.table_rows.specs.declared.target.Target.{Target}
use Rattle.table_rows.specs.Targets.{sees}
use Rattle.gathering.specs.declared.query.Query.{Query}
use Rattle.gathering.specs.declared.collector.ResultCollector.{ResultCollector}
use Rattle.gathering.specs.Fits.{FitsQuery}
use Rattle.gathering.specs.Found.{answer_after}
use Rattle.gathering.specs.Passed.{alone}
use Rattle.gathering.specs.Queries.{answered, bound_of}
use Rattle.gathering.proofs.Passed.{rows_are_combinations}
use Rattle.gathering.proofs.Stages.{takes, bind_same}
use Rattle.gathering.specs.KeyOrder.{are_first_of, first_row_cmp, unsorted, NeverFalls}
use Rattle.gathering.proofs.KeyOrder.{key_order_is_sorted, pairs_passed, rising_never_falls}
use Rattle.gathering.specs.Done.{IsKnown}
use Rattle.gathering.proofs.Done.{all_pass}
use Rattle.key_ranges.specs.Infallible.{GuardNeverFails}
use Rattle.sql_ast.specs.Layout.{Layout}
use Rattle.sql_ast.specs.Rows.{row_cmp}
use Rattle.abstract_database.specs.Lists.{Among}
use Rattle.std.specs.Ordering.{is_gt}
use Rattle.store.specs.declared.fault.Fault.TheVariants.{Memory, Device, Damaged}
use Rattle.store.specs.declared.stop.StatementError.{StatementError}
use Rattle.store.specs.declared.stop.StatementError.TheVariants.{Refused, Failed}
use Rattle.store.specs.Records.{Records}
use Rattle.table_rows.specs.Ranged.{records_of}
use Rattle.table_rows.specs.Visits.{AnswerAfter}
use Rattle.table_rows.specs.Walked.{WalksFront, Walks}
use Rattle.executor.specs.declared.one_table.OneTable.{OneTable}
use Rattle.executor.specs.FoundOrder.{IsOrderOf}
use Rattle.executor.proofs.FoundOrder.{never_fall_by}
use Rattle.executor.specs.Selected.{FitQuery, source_of, AnswersFront, CountsNoRows, GathersInOrder, GathersRows, ReadsAs}

-- ---- a row

pub row_taken : (p : Guard) (row : Row) (g h : ResultCollector) → is_met (p row) ≡ Ok true → ((more : List Combination) → answer_after g (alone row ∷ more) ≡ answer_after h more) → (rest : List Row)
    → (passing p (row ∷ rest) >>= λ seen. answer_after g (map alone seen)) ≡ (passing p rest >>= λ seen. answer_after h (map alone seen))
row_taken p row g h e taken rest = takes p row rest (λ seen. answer_after g (map alone seen)) e ∙ bind_same (passing p rest) _ _ (λ seen. taken (map alone seen))

-- ---- the rows that pass

kept_if : (P : Row → Type 0) (v : Value) (row : Row) (rows : List Row) → P row → AllByRecursion P rows → AllByRecursion P (when_true v (row ∷ rows) rows)
kept_if P Null row rows p all = all
kept_if P (Int n) row rows p all = all
kept_if P (Text t) row rows p all = all
kept_if P (Boolean true) row rows p all = (p, all)
kept_if P (Boolean false) row rows p all = all

-- what is said of all rows is said of those that pass
pub passing_part : (P : Row → Type 0) (p : Guard) (rows seen : List Row) → AllByRecursion P rows → passing p rows ≡ Ok seen → AllByRecursion P seen
passing_part P p [] seen all e = subst (AllByRecursion P) (ok_inside [] seen e) tt
passing_part P p (row ∷ rows) seen all e =
    let first = bind_ok (p row) _ seen e in
    let more = bind_ok (passing p rows) _ seen first.2 in
    subst (AllByRecursion P) (ok_inside (when_true first.0 (row ∷ more.0) more.0) seen more.2) (kept_if P first.0 row more.0 all.0 (passing_part P p rows more.0 all.1 more.1))

all_alone : (P : Combination → Type 0) (rows : List Row) → AllByRecursion (λ row. P (alone row)) rows → AllByRecursion P (map alone rows)
all_alone P [] all = tt
all_alone P (row ∷ rows) all = (all.0, all_alone P rows all.1)

-- ---- the whole

-- the query of the definition is what is answered where all rows still come
pub whole_is : (table : Target) (order : List ℕ) (users : UserNames) (q : Query) (rows : List Row) (g : ResultCollector) → FitQuery users q rows → NeverFalls (row_cmp order) rows → GathersRows order users q g
    → query (source_of table rows ∷ []) users (bound_of q) ≡ (passing (sees table) rows >>= λ seen. answer_after g (map alone seen))
whole_is table order users q rows g fit never gathers = go (passing (sees table) rows) refl
  where
    go : (r : Result (List Row) SqlState) → passing (sees table) rows ≡ r → ((r >>= λ seen. Ok (seen ∷ [])) >>= λ visible. answered users (bound_of q) (product visible)) ≡ (r >>= λ seen. answer_after g (map alone seen))
    go (Err code) e = refl
    go (Ok seen) e =
        ap (answered users (bound_of q)) (rows_are_combinations seen)
        ∙ sym (gathers seen (pairs_passed _ (sees table) rows seen never e).0 (passing_part (λ row. FitsQuery users q (alone row)) (sees table) rows seen fit e))

-- ---- rows in the order of the key

alone_later : (key : List ℕ) (row : Row) (rows : List Row) → ((y : Row) → Among y rows → is_gt (row_cmp key row y) ≡ false) → (c : Combination) → Among c (map alone rows) → is_gt (first_row_cmp key (alone row) c) ≡ false
alone_later key row [] before c among = absurd among
alone_later key row (other ∷ rows) before c among = go among (λ later. alone_later key row rows (λ y a. before y (inr a)) c later)
  where
    go : (alone other ≡ c) ⊎ Among c (map alone rows) → (Among c (map alone rows) → is_gt (first_row_cmp key (alone row) c) ≡ false) → is_gt (first_row_cmp key (alone row) c) ≡ false
    go (inl same) rest = subst (λ (d : Combination). is_gt (first_row_cmp key (alone row) d) ≡ false) same (before other (inl refl))
    go (inr later) rest = rest later

never_falls_alone : (key : List ℕ) (rows : List Row) → NeverFalls (row_cmp key) rows → NeverFalls (first_row_cmp key) (map alone rows)
never_falls_alone key [] never = tt
never_falls_alone key (row ∷ rows) never = (alone_later key row rows never.0, never_falls_alone key rows never.1)

fits_unsorted : (users : UserNames) (q : Query) (rows : List Row) → FitQuery users q rows → AllByRecursion (FitsQuery users (unsorted q)) (map alone rows)
fits_unsorted users q [] fit = tt
fits_unsorted users q (row ∷ rows) fit = ((fit.0.0, tt), fits_unsorted users q rows fit.1)

-- what is gathered without the sort keys
gathers_unsorted : (key : List ℕ) (users : UserNames) (q : Query) (g : ResultCollector) → are_first_of key q.keys ≡ true
    → ((combinations : List Combination) → AllByRecursion (FitsQuery users (unsorted q)) combinations → answer_after g combinations ≡ answered users (bound_of (unsorted q)) combinations)
    → GathersRows key users q g
gathers_unsorted key users q g first same rows never fit =
    same (map alone rows) (fits_unsorted users q rows fit) ∙ sym (key_order_is_sorted key users q (map alone rows) first (never_falls_alone key rows never))

-- what is gathered with them
gathers_sorted : (key : List ℕ) (users : UserNames) (q : Query) (g : ResultCollector)
    → ((combinations : List Combination) → AllByRecursion (FitsQuery users q) combinations → answer_after g combinations ≡ answered users (bound_of q) combinations)
    → GathersRows key users q g
gathers_sorted key users q g same rows never fit = same (map alone rows) (all_alone (FitsQuery users q) rows fit)

-- what is gathered in the order of the key, if that is the order of the query
pub gathers_rows : (key : List ℕ) (users : UserNames) (q : Query) (g : ResultCollector) → GathersInOrder key users q g → GathersRows key users q g
gathers_rows key users q g (inl same) = gathers_sorted key users q g same
gathers_rows key users q g (inr so) = gathers_unsorted key users q g so.0 so.1

-- ---- rows that do not count

pub counts_no_rows : (s : OneTable) → GuardNeverFails (sees s.table.now) → IsKnown s.collector → CountsNoRows s
counts_no_rows s infallible known rows =
    let passed = all_pass (sees s.table.now) infallible rows in
    ap (λ (r : Result (List Row) SqlState). r >>= λ seen. answer_after s.collector (map alone seen)) passed.1 ∙ known (map alone passed.0)

-- no record is found
pub none_walked : {A : Type 0} (id : ℕ) (layout : Layout) (records : Records) (old : AnswerAfter A) → ((rows : List Row) → old rows ≡ old []) → WalksFront id layout records old old
none_walked id layout records old same = record { front = []; behind = records; parts = refl; spelled = tt; decides = λ rows rest h none. same (rows ++ rest) }

-- the front that was walked is what the query was answered of
module _ (table : Target) (records : Records) (order : List ℕ) (is_order : IsOrderOf table order) (users : UserNames) (q : Query) (g : ResultCollector) (same : GathersRows order users q g) where
  abbrev asked : AnswerAfter (List Row)
  asked rows = passing (sees table) rows >>= λ seen. answer_after g (map alone seen)

  pub front_answers : (last : AnswerAfter (List Row)) (answer : Result (List Row) SqlState) → last [] ≡ answer → WalksFront table.id table.columns.now (records_of table records) asked last → AnswersFront table records users q answer
  front_answers last answer is w = record {
    front = w.front;
    behind = w.behind;
    parts = w.parts;
    spelled = w.spelled;
    decides = λ rows rest held none rising each fit.
        let never = never_fall_by table order (rows ++ rest) is_order each (rising_never_falls (row_cmp table.columns.now.key) (rows ++ rest) rising) in
        whole_is table order users q (rows ++ rest) g fit never same ∙ w.decides rows rest held none ∙ is;
  }

  -- so is the refusal of a walk
  pub front_failed : (last : AnswerAfter (List Row)) (failure : StatementError) → (let r : Result (Unit {0}) StatementError = Err failure in Walks table.id table.columns.now (records_of table records) asked last r)
      → (let r : Result (List Row) StatementError = Err failure in ReadsAs (AnswersFront table records users q) table records r)
  front_failed last (Refused code) w = front_answers (λ rest. Err code) (Err code) refl w
  front_failed last (Failed Memory) w = tt
  front_failed last (Failed Device) w = tt
  front_failed last (Failed Damaged) w = w
