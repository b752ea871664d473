-- Rows that may be left out change neither an answer nor a refusal.
use Rattle.std.proofs.Common.{◌≡◌, ℕ, suc, Bool, true, false, if◌then◌else◌, List, [], ◌∷◌, ◌++◌, map, flat_map, filter, length, Some, None, Result, Ok, Err, refl, sym, ap, subst, ◌∙◌, inl, inr}
use Rattle.std.specs.List.{AllByRecursion}
use Rattle.sql_types.specs.declared.state.SqlState.{SqlState}
use Rattle.sql_types.specs.declared.value.Value.{Value}
use Rattle.sql_types.specs.declared.value.Value.TheVariants.{Null, Int, Text, Bool as Boolean}
use Rattle.sql_types.specs.Row.{Row}
use Rattle.sql_ast.specs.Fits.{FitsTable}
use Rattle.expressions.specs.Outcome.{Outcome}
use Rattle.expressions.specs.Stages.{◌>>=◌, each}
use Rattle.abstract_database.specs.Expressions.{when_true, passing}
use Rattle.abstract_database.specs.Guards.{Guard}
use Rattle.abstract_database.specs.Queries.{Combination, Source, product, condition_value, listed}
use Rattle.abstract_database.specs.Changes.{Chosen, condition_on_row}
use Rattle.abstract_database.specs.Whole.{Each}
use Rattle.guards.specs.Truths.{is_met}
use Rattle.key_ranges.specs.LeftOut.{LeftOutLosesNothing, LeftOutBehindLosesNothing, LeftUnchangedIsNotChosen, LeftUnchangedIsNotMet}
use Rattle.key_ranges.proofs.Unchanged.{is_true}

-- ---- what passes

then_same : {A B : Type 0} (r : Result A SqlState) (f g : A → Result B SqlState) → ((a : A) → f a ≡ g a) → (r >>= f) ≡ (r >>= g)
then_same (Ok x) f g h = h x
then_same (Err code) f g h = refl

then_then : {A B C : Type 0} (r : Result A SqlState) (f : A → Result B SqlState) (g : B → Result C SqlState) → ((r >>= f) >>= g) ≡ (r >>= λ x. f x >>= g)
then_then (Ok x) f g = refl
then_then (Err code) f g = refl

then_ok : {A : Type 0} (r : Result A SqlState) → (r >>= λ x. Ok x) ≡ r
then_ok (Ok x) = refl
then_ok (Err code) = refl

-- what passes behind one element
abbrev behind_one : {A : Type 0} → A → Value → List A → List A
behind_one x v ys = when_true v (x ∷ ys) ys

not_passed : {A : Type 0} (o : Outcome) (x : A) (r : Result (List A) SqlState) → is_met o ≡ Ok false → (o >>= λ v. r >>= λ ys. Ok (behind_one x v ys)) ≡ r
not_passed (Err code) x r h = cc
not_passed (Ok Null) x r h = then_ok r
not_passed (Ok (Int n)) x r h = then_ok r
not_passed (Ok (Text t)) x r h = then_ok r
not_passed (Ok (Boolean false)) x r h = then_ok r
not_passed (Ok (Boolean true)) x r h = cc

append_one : {A : Type 0} (x : A) (v : Value) (ys zs : List A) → behind_one x v ys ++ zs ≡ behind_one x v (ys ++ zs)
append_one x Null ys zs = refl
append_one x (Int n) ys zs = refl
append_one x (Text t) ys zs = refl
append_one x (Boolean true) ys zs = refl
append_one x (Boolean false) ys zs = refl

-- what passes of two lists
passing_append : {A : Type 0} (p : A → Outcome) (xs ys : List A) → passing p (xs ++ ys) ≡ (passing p xs >>= λ cs1. passing p ys >>= λ bs. Ok (cs1 ++ bs))
passing_append p [] ys = sym (then_ok (passing p ys))
passing_append {A} p (x ∷ xs) ys = go (p x) (passing p xs) (passing p (xs ++ ys)) (passing_append p xs ys)
  where
    go : (o : Outcome) (some all : Result (List A) SqlState) → all ≡ (some >>= λ cs1. passing p ys >>= λ bs. Ok (cs1 ++ bs))
        → (o >>= λ v. all >>= λ zs. Ok (behind_one x v zs)) ≡ ((o >>= λ v. some >>= λ cs1. Ok (behind_one x v cs1)) >>= λ cs1. passing p ys >>= λ bs. Ok (cs1 ++ bs))
    go (Err code) some all h = refl
    go (Ok v) (Err code) all h = ap (λ r. r >>= λ zs. Ok (behind_one x v zs)) h
    go (Ok v) (Ok cs1) all h =
        ap (λ r. r >>= λ zs. Ok (behind_one x v zs)) h
        ∙ then_then (passing p ys) (λ bs. Ok (cs1 ++ bs)) (λ zs. Ok (behind_one x v zs))
        ∙ then_same (passing p ys) (λ bs. Ok (behind_one x v (cs1 ++ bs))) (λ bs. Ok (behind_one x v cs1 ++ bs)) (λ bs. ap (λ zs. Ok zs) (sym (append_one x v cs1 bs)))

-- elements that a test leaves out and that do not pass
same_passing : {A : Type 0} (p : A → Outcome) (xs ys : List A) (zs ws : List A) → passing p xs ≡ passing p zs → passing p ys ≡ passing p ws → passing p (xs ++ ys) ≡ passing p (zs ++ ws)
same_passing p xs ys zs ws h k =
    passing_append p xs ys
    ∙ ap (λ r. r >>= λ cs1. passing p ys >>= λ bs. Ok (cs1 ++ bs)) h
    ∙ ap (λ r. passing p zs >>= λ cs1. r >>= λ bs. Ok (cs1 ++ bs)) k
    ∙ sym (passing_append p zs ws)

-- ---- combinations

abbrev with_row : List Combination → Row → List Combination
with_row rests row = map (λ rest. row ∷ rest) rests

one_with_row : (row : Row) (rest : Combination) (v : Value) (ys : List Combination) → with_row (behind_one rest v ys) row ≡ behind_one (row ∷ rest) v (with_row ys row)
one_with_row row rest Null ys = refl
one_with_row row rest (Int n) ys = refl
one_with_row row rest (Text t) ys = refl
one_with_row row rest (Boolean true) ys = refl
one_with_row row rest (Boolean false) ys = refl

passing_behind : (p : Combination → Outcome) (row : Row) (rests : List Combination) → passing p (with_row rests row) ≡ (passing (λ rest. p (row ∷ rest)) rests >>= λ cs. Ok (with_row cs row))
passing_behind p row [] = refl
passing_behind p row (rest ∷ rests) = go (p (row ∷ rest)) (passing (λ rest. p (row ∷ rest)) rests) (passing p (with_row rests row)) (passing_behind p row rests)
  where
    go : (o : Outcome) (some all : Result (List Combination) SqlState) → all ≡ (some >>= λ cs. Ok (with_row cs row))
        → (o >>= λ v. all >>= λ zs. Ok (behind_one (row ∷ rest) v zs)) ≡ ((o >>= λ v. some >>= λ cs. Ok (behind_one rest v cs)) >>= λ cs. Ok (with_row cs row))
    go (Err code) some all h = refl
    go (Ok v) (Err code) all h = ap (λ r. r >>= λ zs. Ok (behind_one (row ∷ rest) v zs)) h
    go (Ok v) (Ok cs) all h = ap (λ r. r >>= λ zs. Ok (behind_one (row ∷ rest) v zs)) h ∙ ap (λ zs. Ok zs) (sym (one_with_row row rest v cs))

none_pass : (p : Combination → Outcome) (row : Row) (rests : List Combination) → ((rest : Combination) → is_met (p (row ∷ rest)) ≡ Ok false) → passing p (with_row rests row) ≡ Ok []
none_pass p row [] h = refl
none_pass p row (rest ∷ rests) h = not_passed (p (row ∷ rest)) (row ∷ rest) (passing p (with_row rests row)) (h rest) ∙ none_pass p row rests h

-- combinations behind each of some rows
pass_behind_each : (p : Combination → Outcome) (some all : List Combination) → ((row : Row) → passing (λ rest. p (row ∷ rest)) some ≡ passing (λ rest. p (row ∷ rest)) all) → (rows : List Row)
    → passing p (flat_map (with_row some) rows) ≡ passing p (flat_map (with_row all) rows)
pass_behind_each p some all h [] = refl
pass_behind_each p some all h (row ∷ rows) =
    same_passing p (with_row some row) (flat_map (with_row some) rows) (with_row all row) (flat_map (with_row all) rows)
    (passing_behind p row some ∙ ap (λ r. r >>= λ cs. Ok (with_row cs row)) (h row) ∙ sym (passing_behind p row all))
    (pass_behind_each p some all h rows)

module _ (Fits : Row → Type 0) (inside sees : Row → Bool) where
  -- a row that is outside and seen is in no combination that passes, and fails in none
  abbrev LeavesOut : ℕ → (Combination → Outcome) → Type 0
  LeavesOut before p = (front : Combination) (row : Row) (rest : Combination) → length front ≡ before → Fits row → inside row ≡ false → sees row ≡ true → is_met (p (front ++ row ∷ rest)) ≡ Ok false

  first_left_out : (p : Combination → Outcome) (rests : List Combination) → LeavesOut 0 p → (rows : List Row) → Each Fits rows
      → passing p (flat_map (with_row rests) (filter sees (filter inside rows))) ≡ passing p (flat_map (with_row rests) (filter sees rows))
  first_left_out p rests leaves [] fit = refl
  first_left_out p rests leaves (row ∷ rows) fit = go (inside row) refl (sees row) refl (first_left_out p rests leaves rows (λ x among. fit x (inr among)))
    where
      some : List Row
      some = filter sees (filter inside rows)

      all : List Row
      all = filter sees rows

      go : (a : Bool) → a ≡ inside row → (b : Bool) → b ≡ sees row → passing p (flat_map (with_row rests) some) ≡ passing p (flat_map (with_row rests) all)
          → passing p (flat_map (with_row rests) (filter sees (if a then row ∷ filter inside rows else filter inside rows))) ≡ passing p (flat_map (with_row rests) (if b then row ∷ all else all))
      go true i true j later =
          ap (λ c. passing p (flat_map (with_row rests) (if c then row ∷ some else some))) (sym j)
          ∙ same_passing p (with_row rests row) (flat_map (with_row rests) some) (with_row rests row) (flat_map (with_row rests) all) refl later
      go true i false j later = ap (λ c. passing p (flat_map (with_row rests) (if c then row ∷ some else some))) (sym j) ∙ later
      go false i true j later =
          same_passing p [] (flat_map (with_row rests) some) (with_row rests row) (flat_map (with_row rests) all)
          (sym (none_pass p row rests (λ rest. leaves [] row rest refl (fit row (inl refl)) (sym i) (sym j)))) later
      go false i false j later = later

  left_out : (before after : List (List Row)) (p : Combination → Outcome) → LeavesOut (length before) p → (rows : List Row) → Each Fits rows
      → passing p (product (before ++ filter sees (filter inside rows) ∷ after)) ≡ passing p (product (before ++ filter sees rows ∷ after))
  left_out [] after p leaves rows fit = first_left_out p (product after) leaves rows fit
  left_out (table ∷ before) after p leaves rows fit =
      pass_behind_each p (product (before ++ filter sees (filter inside rows) ∷ after)) (product (before ++ filter sees rows ∷ after))
      (λ first. left_out before after (λ rest. p (first ∷ rest)) (λ front row rest long fits out seen. leaves (first ∷ front) row rest (ap suc long) fits out seen) rows fit)
      table

-- ---- the guard

-- what passes a guard is what it is true on
abbrev kept_if : {A : Type 0} → Bool → A → List A → List A
kept_if b x xs = if b then x ∷ xs else xs

one_kept : {A : Type 0} (x : A) (v : Value) (ys : List A) → behind_one x v ys ≡ kept_if (when_true v true false) x ys
one_kept x Null ys = refl
one_kept x (Int n) ys = refl
one_kept x (Text t) ys = refl
one_kept x (Boolean true) ys = refl
one_kept x (Boolean false) ys = refl

abbrev done : Unit {0}
done = tt

-- whether rows passed
abbrev passed_at_all : Result (List Row) SqlState → Result (Unit {0}) SqlState
passed_at_all r = r >>= λ ys. Ok done

module _ (guard : Guard) where
  abbrev sees_by : Row → Bool
  sees_by row = is_true (guard row)

  -- rows pass as these, or the guard fails on one
  abbrev seen_or : Result (Unit {0}) SqlState → List Row → Result (List Row) SqlState
  seen_or r rows = r >>= λ t. Ok (filter sees_by rows)

  -- whether the guard fails on a row
  abbrev verdict : List Row → Result (Unit {0}) SqlState
  verdict rows = passed_at_all (passing guard rows)

  passes_so : (rows : List Row) → passing guard rows ≡ seen_or (verdict rows) rows
  passes_so [] = refl
  passes_so (row ∷ rows) = go (guard row) refl (passing guard rows) (passes_so rows)
    where
      go : (o : Outcome) → o ≡ guard row → (r : Result (List Row) SqlState) → r ≡ (passed_at_all r >>= λ t. Ok (filter sees_by rows))
          → (o >>= λ v. r >>= λ ys. Ok (behind_one row v ys)) ≡ (passed_at_all (o >>= λ v. r >>= λ ys. Ok (behind_one row v ys)) >>= λ t. Ok (kept_if (is_true (guard row)) row (filter sees_by rows)))
      go (Err code) e r h = refl
      go (Ok v) e (Err code) h = refl
      go (Ok v) e (Ok ys) h =
          let same : ys ≡ filter sees_by rows = cc in
          ap (λ zs. Ok (behind_one row v zs)) same ∙ ap (λ zs. Ok zs) (one_kept row v (filter sees_by rows)) ∙ ap (λ o. Ok (kept_if (is_true o) row (filter sees_by rows))) e

  -- where it fails on no row that is outside, it fails as without them
  same_verdict : (Fits : Row → Type 0) (inside : Row → Bool) → ((row : Row) → Fits row → inside row ≡ false → (v : Value) × (guard row ≡ Ok v)) → (rows : List Row) → Each Fits rows
      → verdict (filter inside rows) ≡ verdict rows
  same_verdict Fits inside there [] fit = refl
  same_verdict Fits inside there (row ∷ rows) fit = go (inside row) refl (same_verdict Fits inside there rows (λ x among. fit x (inr among)))
    where
      through : (o : Outcome) (r s : Result (List Row) SqlState) → passed_at_all r ≡ passed_at_all s
          → passed_at_all (o >>= λ v. r >>= λ ys. Ok (behind_one row v ys)) ≡ passed_at_all (o >>= λ v. s >>= λ ys. Ok (behind_one row v ys))
      through (Err code) r s h = refl
      through (Ok v) (Err code) (Err other) h = h
      through (Ok v) (Err code) (Ok ys) h = cc
      through (Ok v) (Ok xs) (Err code) h = cc
      through (Ok v) (Ok xs) (Ok ys) h = refl

      passed : (o : Outcome) → (v : Value) × (o ≡ Ok v) → (r : Result (List Row) SqlState) → passed_at_all r ≡ passed_at_all (o >>= λ v. r >>= λ ys. Ok (behind_one row v ys))
      passed (Err code) h r = let e = h.1 in cc
      passed (Ok v) h (Err code) = refl
      passed (Ok v) h (Ok ys) = refl

      go : (a : Bool) → a ≡ inside row → verdict (filter inside rows) ≡ verdict rows → verdict (if a then row ∷ filter inside rows else filter inside rows) ≡ verdict (row ∷ rows)
      go true i later = through (guard row) (passing guard (filter inside rows)) (passing guard rows) later
      go false i later = later ∙ passed (guard row) (there row (fit row (inl refl)) (sym i)) (passing guard rows)

-- ---- SELECT

each_append : {A B : Type 0} (f : A → Result B SqlState) (xs : List A) (x : A) (ys : List A) → each f (xs ++ x ∷ ys) ≡ (each f xs >>= λ bs. f x >>= λ y. each f ys >>= λ zs. Ok (bs ++ y ∷ zs))
each_append f [] x ys = refl
each_append {A} {B} f (w ∷ xs) x ys = go (f w) (each f xs) (each f (xs ++ x ∷ ys)) (each_append f xs x ys)
  where
    go : (o : Result B SqlState) (some all : Result (List B) SqlState) → all ≡ (some >>= λ bs. f x >>= λ y. each f ys >>= λ zs. Ok (bs ++ y ∷ zs))
        → (o >>= λ v. all >>= λ zs. Ok (v ∷ zs)) ≡ ((o >>= λ v. some >>= λ zs. Ok (v ∷ zs)) >>= λ bs. f x >>= λ y. each f ys >>= λ zs. Ok (bs ++ y ∷ zs))
    go (Err code) some all h = refl
    go (Ok v) (Err code) all h = ap (λ r. r >>= λ zs. Ok (v ∷ zs)) h
    go (Ok v) (Ok bs) all h =
        ap (λ r. r >>= λ zs. Ok (v ∷ zs)) h
        ∙ then_then (f x) (λ y. each f ys >>= λ zs. Ok (bs ++ y ∷ zs)) (λ zs. Ok (v ∷ zs))
        ∙ then_same (f x) (λ y. (each f ys >>= λ zs. Ok (bs ++ y ∷ zs)) >>= λ zs. Ok (v ∷ zs)) (λ y. each f ys >>= λ zs. Ok (v ∷ bs ++ y ∷ zs))
        (λ y. then_then (each f ys) (λ zs. Ok (bs ++ y ∷ zs)) (λ zs. Ok (v ∷ zs)))

as_many : {A B : Type 0} (f : A → Result B SqlState) (xs : List A) (ys : List B) → each f xs ≡ Ok ys → length ys ≡ length xs
as_many f [] ys h = let e : ys ≡ [] = cc in ap length e
as_many {A} {B} f (x ∷ xs) ys h = go (f x) (each f xs) (λ zs e. as_many f xs zs e) h
  where
    go : (o : Result B SqlState) (r : Result (List B) SqlState) → ((zs : List B) → r ≡ Ok zs → length zs ≡ length xs) → (o >>= λ y. r >>= λ zs. Ok (y ∷ zs)) ≡ Ok ys → length ys ≡ suc (length xs)
    go (Err code) r later k = cc
    go (Ok v) (Err code) later k = cc
    go (Ok v) (Ok zs) later k = let same : ys ≡ v ∷ zs = cc in ap length same ∙ ap suc (later zs refl)

met_of : (o : Outcome) → is_true o ≡ true → (v : Value) → o ≡ Ok v → when_true v true false ≡ true
met_of o h v e = sym (ap is_true e) ∙ h

pub left_out_loses_nothing : LeftOutLosesNothing
left_out_loses_nothing layout users before after guard inside q rows leaves fit =
    ap answer_of (each_append visible before narrow after)
    ∙ ap (λ r. answer_of (each visible before >>= λ bs. r >>= λ y. each visible after >>= λ zs. Ok (bs ++ y ∷ zs)))
    (passes_so guard (filter inside rows) ∙ ap (λ w. seen_or guard w (filter inside rows)) (same_verdict guard (FitsTable layout) inside there rows fit))
    ∙ go (each visible before) refl (verdict guard rows) (each visible after)
    ∙ ap (λ r. answer_of (each visible before >>= λ bs. r >>= λ y. each visible after >>= λ zs. Ok (bs ++ y ∷ zs))) (sym (passes_so guard rows))
    ∙ sym (ap answer_of (each_append visible before all after))
  where
    visible : Source → Result (List Row) SqlState
    visible s = passing s.guard s.rows

    narrow : Source
    narrow = record { guard = guard; rows = filter inside rows }

    all : Source
    all = record { guard = guard; rows = rows }

    answer_of : Result (List (List Row)) SqlState → Result (List Row) SqlState
    answer_of r = r >>= λ tables. passing (condition_value users q.conditions) (product tables) >>= λ chosen. listed users q.list q.keys q.limit chosen

    there : (row : Row) → FitsTable layout row → inside row ≡ false → (v : Value) × (guard row ≡ Ok v)
    there row fits out = let left = leaves row fits out in (left.value, left.guarded)

    unseen : (n : ℕ) → n ≡ length before → LeavesOut (FitsTable layout) inside (sees_by guard) n (condition_value users q.conditions)
    unseen n same front row rest long fits out seen =
        let left = leaves row fits out in
        left.not_chosen (met_of (guard row) seen left.value left.guarded) front rest (long ∙ same)

    go : (r : Result (List (List Row)) SqlState) → r ≡ each visible before → (w : Result (Unit {0}) SqlState) (s : Result (List (List Row)) SqlState)
        → answer_of (r >>= λ bs. seen_or guard w (filter inside rows) >>= λ y. s >>= λ zs. Ok (bs ++ y ∷ zs)) ≡ answer_of (r >>= λ bs. seen_or guard w rows >>= λ y. s >>= λ zs. Ok (bs ++ y ∷ zs))
    go (Err code) e w s = refl
    go (Ok bs) e (Err code) s = refl
    go (Ok bs) e (Ok t) (Err code) = refl
    go (Ok bs) e (Ok t) (Ok zs) =
        ap (λ r. r >>= λ chosen. listed users q.list q.keys q.limit chosen)
        (left_out (FitsTable layout) inside (sees_by guard) bs zs (condition_value users q.conditions) (unseen (length bs) (as_many visible before bs (sym e))) rows fit)

-- ---- UPDATE and DELETE

abbrev then_becomes : (Row → Result Row SqlState) → Row → Value → Result Chosen SqlState
then_becomes becomes row chosen = when_true chosen (becomes row >>= λ r. Ok (Some r)) (Ok None) >>= λ new. Ok (record { row = row; new = new })

abbrev stays : Row → Result Chosen SqlState
stays row = Ok (record { row = row; new = None })

not_met : (becomes : Row → Result Row SqlState) (row : Row) (o : Outcome) → is_met o ≡ Ok false → (o >>= λ chosen. then_becomes becomes row chosen) ≡ stays row
not_met becomes row (Err code) h = cc
not_met becomes row (Ok Null) h = refl
not_met becomes row (Ok (Int n)) h = refl
not_met becomes row (Ok (Text t)) h = refl
not_met becomes row (Ok (Boolean false)) h = refl
not_met becomes row (Ok (Boolean true)) h = cc

by_guard : (becomes : Row → Result Row SqlState) (row : Row) (v : Value) (o : Outcome) → (when_true v true false ≡ true → is_met o ≡ Ok false)
    → (when_true v o (Ok (Boolean false)) >>= λ chosen. then_becomes becomes row chosen) ≡ stays row
by_guard becomes row Null o h = refl
by_guard becomes row (Int n) o h = refl
by_guard becomes row (Text t) o h = refl
by_guard becomes row (Boolean false) o h = refl
by_guard becomes row (Boolean true) o h = not_met becomes row o (h refl)

pub left_unchanged_is_not_chosen : LeftUnchangedIsNotChosen
left_unchanged_is_not_chosen users guard condition becomes row left =
    ap (λ r. r >>= λ visible. when_true visible (condition_on_row users condition row) (Ok (Boolean false)) >>= λ chosen. then_becomes becomes row chosen) left.guarded
    ∙ by_guard becomes row left.value (condition_on_row users condition row) left.not_chosen

met_by_guard : (v : Value) (o : Outcome) → (when_true v true false ≡ true → is_met o ≡ Ok false) → (is_met (Ok v) >>= λ visible. if visible then is_met o else Ok false) ≡ Ok false
met_by_guard Null o h = refl
met_by_guard (Int n) o h = refl
met_by_guard (Text t) o h = refl
met_by_guard (Boolean false) o h = refl
met_by_guard (Boolean true) o h = h refl

pub left_unchanged_is_not_met : LeftUnchangedIsNotMet
left_unchanged_is_not_met users guard condition row left =
    ap (λ r. is_met r >>= λ visible. if visible then is_met (condition_on_row users condition row) else Ok false) left.guarded
    ∙ met_by_guard left.value (condition_on_row users condition row) left.not_chosen

-- ---- behind rows that are seen

-- what is said of combinations behind a row
said_behind : (P : Combination → Type 0) (row : Row) (cs others : List Combination) → AllByRecursion P (with_row cs row ++ others) → AllByRecursion (λ rest. P (row ∷ rest)) cs × AllByRecursion P others
said_behind P row [] others all = (tt, all)
said_behind P row (c ∷ cs) others all = let later = said_behind P row cs others all.1 in ((all.0, later.0), later.1)

-- behind one row of the first table, and behind its others
pass_behind_row : (p : Combination → Outcome) (row : Row) (some all others more : List Combination) → passing (λ rest. p (row ∷ rest)) some ≡ passing (λ rest. p (row ∷ rest)) all → passing p others ≡ passing p more
    → passing p (with_row some row ++ others) ≡ passing p (with_row all row ++ more)
pass_behind_row p row some all others more here later =
    same_passing p (with_row some row) others (with_row all row) more
    (passing_behind p row some ∙ ap (λ r. r >>= λ cs. Ok (with_row cs row)) here ∙ sym (passing_behind p row all)) later

module _ (Fits : Row → Type 0) (inside sees : Row → Bool) where
  abbrev LeavesBehind : (Combination → Outcome) → Combination → Type 0
  LeavesBehind p front = (row : Row) (rest : Combination) → Fits row → inside row ≡ false → sees row ≡ true → is_met (p (front ++ row ∷ rest)) ≡ Ok false

  left_out_behind : (before after : List (List Row)) (p : Combination → Outcome) → AllByRecursion (LeavesBehind p) (product before) → (rows : List Row) → Each Fits rows
      → passing p (product (before ++ filter sees (filter inside rows) ∷ after)) ≡ passing p (product (before ++ filter sees rows ∷ after))
  left_out_behind [] after p leaves rows fit = first_left_out Fits inside sees p (product after) at_once rows fit
    where
      at_once : LeavesOut Fits inside sees 0 p
      at_once [] row rest long fits out seen = leaves.0 row rest fits out seen
      at_once (r ∷ front) row rest long fits out seen = cc
  left_out_behind (table ∷ before) after p leaves rows fit = go table leaves (λ first said. left_out_behind before after (λ rest. p (first ∷ rest)) said rows fit)
    where
      some : List Combination
      some = product (before ++ filter sees (filter inside rows) ∷ after)

      all : List Combination
      all = product (before ++ filter sees rows ∷ after)

      go : (table : List Row) → AllByRecursion (LeavesBehind p) (product (table ∷ before))
          → ((first : Row) → AllByRecursion (LeavesBehind (λ rest. p (first ∷ rest))) (product before) → passing (λ rest. p (first ∷ rest)) some ≡ passing (λ rest. p (first ∷ rest)) all)
          → passing p (flat_map (with_row some) table) ≡ passing p (flat_map (with_row all) table)
      go [] leaves behind = refl
      go (first ∷ others) leaves behind =
          let said = said_behind (LeavesBehind p) first (product before) (product (others ∷ before)) leaves in
          pass_behind_row p first some all (flat_map (with_row some) others) (flat_map (with_row all) others) (behind first said.0) (go others said.1 behind)

-- what is said of each row, behind each combination
turn_round : (Fits : Row → Type 0) (inside sees : Row → Bool) (p : Combination → Outcome) (fronts : List Combination)
    → ((row : Row) → Fits row → inside row ≡ false → sees row ≡ true → AllByRecursion (λ front. (rest : Combination) → is_met (p (front ++ row ∷ rest)) ≡ Ok false) fronts)
    → AllByRecursion (LeavesBehind Fits inside sees p) fronts
turn_round Fits inside sees p [] said = tt
turn_round Fits inside sees p (front ∷ fronts) said =
    ((λ row rest fits out seen. (said row fits out seen).0 rest), turn_round Fits inside sees p fronts (λ row fits out seen. (said row fits out seen).1))

same_lists : (x y : List (List Row)) → (let o : Result (List (List Row)) SqlState = Ok x in o) ≡ Ok y → x ≡ y
same_lists x y e = cc

pub left_out_behind_loses_nothing : LeftOutBehindLosesNothing
left_out_behind_loses_nothing layout users before after front guard inside q rows are leaves fit =
    ap answer_of (each_append visible before narrow after)
    ∙ ap (λ r. answer_of (each visible before >>= λ bs. r >>= λ y. each visible after >>= λ zs. Ok (bs ++ y ∷ zs)))
    (passes_so guard (filter inside rows) ∙ ap (λ w. seen_or guard w (filter inside rows)) (same_verdict guard (FitsTable layout) inside there rows fit))
    ∙ go (each visible before) are (verdict guard rows) (each visible after)
    ∙ ap (λ r. answer_of (each visible before >>= λ bs. r >>= λ y. each visible after >>= λ zs. Ok (bs ++ y ∷ zs))) (sym (passes_so guard rows))
    ∙ sym (ap answer_of (each_append visible before all after))
  where
    visible : Source → Result (List Row) SqlState
    visible s = passing s.guard s.rows

    narrow : Source
    narrow = record { guard = guard; rows = filter inside rows }

    all : Source
    all = record { guard = guard; rows = rows }

    answer_of : Result (List (List Row)) SqlState → Result (List Row) SqlState
    answer_of r = r >>= λ tables. passing (condition_value users q.conditions) (product tables) >>= λ chosen. listed users q.list q.keys q.limit chosen

    there : (row : Row) → FitsTable layout row → inside row ≡ false → (v : Value) × (guard row ≡ Ok v)
    there row fits out = let left = leaves row fits out in (left.value, left.guarded)

    unseen : AllByRecursion (LeavesBehind (FitsTable layout) inside (sees_by guard) (condition_value users q.conditions)) (product front)
    unseen = turn_round (FitsTable layout) inside (sees_by guard) (condition_value users q.conditions) (product front)
        (λ row fits out seen. let left = leaves row fits out in left.not_chosen (met_of (guard row) seen left.value left.guarded))

    go : (r : Result (List (List Row)) SqlState) → r ≡ Ok front → (w : Result (Unit {0}) SqlState) (s : Result (List (List Row)) SqlState)
        → answer_of (r >>= λ bs. seen_or guard w (filter inside rows) >>= λ y. s >>= λ zs. Ok (bs ++ y ∷ zs)) ≡ answer_of (r >>= λ bs. seen_or guard w rows >>= λ y. s >>= λ zs. Ok (bs ++ y ∷ zs))
    go (Err code) e w s = refl
    go (Ok bs) e (Err code) s = refl
    go (Ok bs) e (Ok t) (Err code) = refl
    go (Ok bs) e (Ok t) (Ok zs) =
        ap (λ r. r >>= λ chosen. listed users q.list q.keys q.limit chosen)
        (left_out_behind (FitsTable layout) inside (sees_by guard) bs zs (condition_value users q.conditions)
        (subst (λ cs. AllByRecursion (LeavesBehind (FitsTable layout) inside (sees_by guard) (condition_value users q.conditions)) (product cs)) (sym (same_lists bs front e)) unseen) rows fit)
