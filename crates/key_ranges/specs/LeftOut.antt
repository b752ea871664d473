-- Rows that a statement may leave unread, whatever the other tables hold and whatever fails on rows that it reads.
use Rattle.std.specs.Prelude.{◌≡◌, ℕ, Bool, true, false, if◌then◌else◌, List, ◌∷◌, ◌++◌, filter, length, Option, None, Result, Ok}
use Rattle.std.specs.List.{AllByRecursion}
use Rattle.sql_types.specs.declared.state.SqlState.{SqlState}
use Rattle.sql_types.specs.declared.value.Value.{Value}
use Rattle.sql_types.specs.Row.{Row}
use Rattle.sql_ast.specs.Layout.{Layout}
use Rattle.sql_ast.specs.Fits.{FitsTable}
use Rattle.sql_ast.specs.declared.scope.ColumnIndex.{ColumnIndex}
use Rattle.sql_ast.specs.Term.{Term}
use Rattle.expressions.specs.Meaning.{UserNames}
use Rattle.expressions.specs.Stages.{◌>>=◌, each}
use Rattle.abstract_database.specs.Expressions.{passing, when_true}
use Rattle.abstract_database.specs.Guards.{Guard}
use Rattle.abstract_database.specs.Queries.{BoundQuery, Combination, Source, condition_value, product, query}
use Rattle.abstract_database.specs.Changes.{choose, condition_on_row}
use Rattle.abstract_database.specs.Whole.{Each}
use Rattle.guards.specs.Truths.{is_met}

-- a row of the table behind so many others: its guard has a value there, and where this is true, the conditions are refused by no combination with it, and true in none
pub record MayBeLeftOut (before : ℕ) (users : UserNames) (guard : Guard) (conditions : List (Term ColumnIndex)) (row : Row) : Type 0 where
  pub value : Value
  pub guarded : guard row ≡ Ok value
  pub not_chosen : when_true value true false ≡ true → (front rest : Combination) → length front ≡ before → is_met (condition_value users conditions (front ++ row ∷ rest)) ≡ Ok false

-- each row of the table that is outside may be left out
abbrev pub OutsideMayBeLeftOut : ℕ → Layout → UserNames → Guard → List (Term ColumnIndex) → (Row → Bool) → Type 0
OutsideMayBeLeftOut before layout users guard conditions inside = (row : Row) → FitsTable layout row → inside row ≡ false → MayBeLeftOut before users guard conditions row

-- then a SELECT answers, or is refused, as without them: whatever rows the tables before and after it have, and whatever their guards say of them
abbrev pub LeftOutLosesNothing : Type 0
LeftOutLosesNothing = (layout : Layout) (users : UserNames) (before after : List Source) (guard : Guard) (inside : Row → Bool) (q : BoundQuery) (rows : List Row)
    → OutsideMayBeLeftOut (length before) layout users guard q.conditions inside → Each (FitsTable layout) rows
    → query (before ++ record { guard = guard; rows = filter inside rows } ∷ after) users q ≡ query (before ++ record { guard = guard; rows = rows } ∷ after) users q

-- a row on which the guard of an UPDATE or a DELETE has a value, and where this is true the condition has one that is not
pub record MayBeLeftUnchanged (users : UserNames) (guard : Guard) (condition : Option (Term ColumnIndex)) (row : Row) : Type 0 where
  pub value : Value
  pub guarded : guard row ≡ Ok value
  pub not_chosen : when_true value true false ≡ true → is_met (condition_on_row users condition row) ≡ Ok false

-- such a row is not chosen
abbrev pub LeftUnchangedIsNotChosen : Type 0
LeftUnchangedIsNotChosen = (users : UserNames) (guard : Guard) (condition : Option (Term ColumnIndex)) (becomes : Row → Result Row SqlState) (row : Row)
    → MayBeLeftUnchanged users guard condition row → choose guard (condition_on_row users condition) becomes row ≡ Ok (record { row = row; new = None })

-- and its guard and its condition are not both true
abbrev pub LeftUnchangedIsNotMet : Type 0
LeftUnchangedIsNotMet = (users : UserNames) (guard : Guard) (condition : Option (Term ColumnIndex)) (row : Row) → MayBeLeftUnchanged users guard condition row
    → (is_met (guard row) >>= λ visible. if visible then is_met (condition_on_row users condition row) else Ok false) ≡ Ok false

-- behind tables of which these rows are seen: a row of the next table on which its guard has a value, and which, where this is true, meets the conditions in no combination behind theirs, and fails in none
pub record MayBeLeftOutBehind (users : UserNames) (guard : Guard) (conditions : List (Term ColumnIndex)) (fronts : List Combination) (row : Row) : Type 0 where
  pub value : Value
  pub guarded : guard row ≡ Ok value
  pub not_chosen : when_true value true false ≡ true → AllByRecursion (λ front. (rest : Combination) → is_met (condition_value users conditions (front ++ row ∷ rest)) ≡ Ok false) fronts

-- then a SELECT answers, or is refused, as without them: whatever rows the tables after it have, and whatever their guards say of them
abbrev pub LeftOutBehindLosesNothing : Type 0
LeftOutBehindLosesNothing = (layout : Layout) (users : UserNames) (before after : List Source) (seen : List (List Row)) (guard : Guard) (inside : Row → Bool) (q : BoundQuery) (rows : List Row)
    → each (λ s. passing s.guard s.rows) before ≡ Ok seen
    → ((row : Row) → FitsTable layout row → inside row ≡ false → MayBeLeftOutBehind users guard q.conditions (product seen) row) → Each (FitsTable layout) rows
    → query (before ++ record { guard = guard; rows = filter inside rows } ∷ after) users q ≡ query (before ++ record { guard = guard; rows = rows } ∷ after) users q
