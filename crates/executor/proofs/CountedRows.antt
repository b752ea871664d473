-- A count of all rows of a table.
use Rattle.std.proofs.Common.{◌≡◌, ℕ, ◌^◌, ◌-◌, ◌≤◌, true, is_some, if◌then◌else◌, List, [], ◌∷◌, map, length, option_to_list, Option, Some, None, Result, Ok, Err, refl, ap, sym, ◌∙◌, subst, arith, inl, inr}
use Rattle.std.proofs.lemmas.Bool.{cases_lt, le-ltb}
use Rattle.std.proofs.lemmas.List.{length-map}
use Rattle.sql_types.specs.Row.{Row}
use Rattle.sql_types.specs.declared.state.SqlState.{SqlState}
use Rattle.sql_types.specs.declared.state.SqlState.TheVariants.{NumericValueOutOfRange}
use Rattle.sql_types.specs.declared.value.Value.TheVariants.{Bool as Boolean}
use Rattle.expressions.specs.Outcome.{Outcome}
use Rattle.expressions.specs.Meaning.{UserNames}
use Rattle.expressions.specs.Stages.{◌>>=◌}
use Rattle.abstract_database.specs.Expressions.{passing}
use Rattle.abstract_database.specs.Queries.{Combination, condition_value, listed, product, query}
use Rattle.gathering.specs.declared.query.OutputList.{OutputList}
use Rattle.gathering.specs.declared.query.Query.{Query}
use Rattle.gathering.specs.Found.{counted}
use Rattle.gathering.specs.Passed.{alone}
use Rattle.gathering.specs.Queries.{answered, bound_of, key_of, list_of, terms}
use Rattle.gathering.proofs.Passed.{rows_are_combinations}
use Rattle.store.specs.Records.{Records, IsOrdered, entry_at, entry_of, lookup}
use Rattle.store.specs.Walks.{count_of}
use Rattle.store.specs.declared.fault.Fault.TheVariants.{Memory, Device, Damaged}
use Rattle.store.specs.declared.stop.StatementError.{StatementError}
use Rattle.store.specs.declared.stop.StatementError.TheVariants.{Refused, Failed}
use Rattle.table_rows.specs.declared.target.Target.{Target}
use Rattle.table_rows.specs.Failures.{Answers}
use Rattle.table_rows.specs.Ranged.{records_of, FindsRows}
use Rattle.table_rows.specs.Targets.{sees}
use Rattle.abstract_database.specs.Lists.{Among}
use Rattle.abstract_database.specs.Whole.{Each}
use Rattle.executor.specs.FoundOrder.{MayBeFound}
use Rattle.executor.specs.Known.{CountsFound}
use Rattle.executor.specs.Selected.{source_of, AnswersFront, AnswersOne, ReadsAs}
use Rattle.executor.proofs.FoundOrder.{found_may_be}

-- ---- all rows are counted

pub passes_each : {X : Type 0} (p : X → Outcome) (xs : List X) → ((x : X) → Among x xs → p x ≡ Ok (Boolean true)) → passing p xs ≡ Ok xs
passes_each p [] all = refl
passes_each p (x ∷ xs) all = rw (all x (inl refl)) (rw (passes_each p xs (λ y among. all y (inr among))) refl)

passes_alone : (p : Combination → Outcome) (rows : List Row) → ((row : Row) → Among row rows → p (alone row) ≡ Ok (Boolean true)) → passing p (map alone rows) ≡ Ok (map alone rows)
passes_alone p [] all = refl
passes_alone p (row ∷ rows) all = rw (all row (inl refl)) (rw (passes_alone p rows (λ y among. all y (inr among))) refl)

pub counts_rows : (table : Target) (users : UserNames) (q : Query) (rows : List Row) → CountsFound table users q → Each (MayBeFound table) rows → query (source_of table rows ∷ []) users (bound_of q) ≡ counted (length rows)
counts_rows table users q rows all each =
    ap (λ (r : Result (List Row) SqlState). (r >>= λ seen. Ok (seen ∷ [])) >>= λ visible. answered users (bound_of q) (product visible)) (passes_each (sees table) rows (λ row among. (all.pass row (each row among)).seen))
    ∙ ap (answered users (bound_of q)) (rows_are_combinations rows)
    ∙ ap (λ (r : Result (List Combination) SqlState). r >>= λ chosen. listed users (list_of q.list) (map key_of q.keys) q.limit chosen)
    (passes_alone (condition_value users (terms q.conditions)) rows (λ row among. (all.pass row (each row among)).met))
    ∙ ap (λ (l : OutputList). listed users (list_of l) (map key_of q.keys) q.limit (map alone rows)) all.count
    ∙ ap counted (length-map rows alone)

-- ---- a count that is no BIGINT

too_many : (n : ℕ) → 2 ^ 63 ≤ n → counted n ≡ Err NumericValueOutOfRange
too_many n many = rw (le-ltb n (2 ^ 63) many) refl

-- a count up to the greatest number of 64 bits is answered as the number of the records is
pub counted_whole : (records : Records) → counted (count_of records) ≡ counted (length records)
counted_whole records = elim (cases_lt (length records) (2 ^ 64 - 1)) [
  | inl few ↦ let same : count_of records ≡ length records = omega (arith, few) in ap counted same
  | inr many ↦ too_many (count_of records) (omega (arith, many)) ∙ sym (too_many (length records) (omega (arith, many)))
]

-- ---- the answer

pub count_answers : (table : Target) (records : Records) (users : UserNames) (q : Query) (rows : List Row) (r : Result (List Row) StatementError) → CountsFound table users q → IsOrdered records → FindsRows table records rows
    → Answers r (counted (length (records_of table records))) → Answers r (query (source_of table rows ∷ []) users (bound_of q))
count_answers table records users q rows r all ordered found answers =
    let long : length (records_of table records) ≡ length rows = ap (λ (es : Records). length es) found.are ∙ length-map rows _ in
    subst (λ (m : Result (List Row) SqlState). Answers r m) (ap counted long ∙ sym (counts_rows table users q rows all (found_may_be table records rows ordered found))) answers

pub count_read : (table : Target) (records : Records) (users : UserNames) (q : Query) (r : Result (List Row) StatementError) → CountsFound table users q
    → Answers r (counted (length (records_of table records))) → ReadsAs (AnswersOne table records users q) table records r
count_read table records users q r all answers = go r answers
  where
    of_count : (answer : Result (List Row) SqlState) → counted (length (records_of table records)) ≡ answer → AnswersOne table records users q answer
    of_count answer is = inr (record { counts = λ rows each many. counts_rows table users q rows all each ∙ ap counted many ∙ is })

    go : (r : Result (List Row) StatementError) → Answers r (counted (length (records_of table records))) → ReadsAs (AnswersOne table records users q) table records r
    go (Ok rows) is = of_count (Ok rows) is
    go (Err (Refused code)) is = of_count (Err code) is
    go (Err (Failed Memory)) is = tt
    go (Err (Failed Device)) is = tt
    go (Err (Failed Damaged)) is = absurd is

pub walk_read : (table : Target) (records : Records) (users : UserNames) (q : Query) (r : Result (List Row) StatementError) → ReadsAs (AnswersFront table records users q) table records r → ReadsAs (AnswersOne table records users q) table records r
walk_read table records users q (Ok rows) front = inl front
walk_read table records users q (Err (Refused code)) front = inl front
walk_read table records users q (Err (Failed Memory)) front = tt
walk_read table records users q (Err (Failed Device)) front = tt
walk_read table records users q (Err (Failed Damaged)) damaged = damaged

-- ---- the keys of a range

-- whether there is a record of a key is how many there are
pub one_if_there : (key : List ℕ) (records : Records) → (if is_some (lookup key records) then 1 else 0) ≡ length (option_to_list (entry_at key records))
one_if_there key records = go (lookup key records)
  where
    go : (o : Option (List ℕ)) → (if is_some o then 1 else 0) ≡ length (option_to_list (entry_of key o))
    go None = refl
    go (Some value) = refl
