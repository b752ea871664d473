-- A walk over a part of the rows of a target.
use Rattle.std.specs.Prelude.{◌≡◌, ℕ, Bool, true, List, [], ◌++◌, Option, MatchOption}
use Rattle.std.specs.List.{AllByRecursion}
use Rattle.sql_types.specs.Row.{Row}
use Rattle.sql_ast.specs.Layout.{Layout}
use Rattle.store.specs.Records.{Records, is_from}
use Rattle.store.specs.Walks.{span}
use Rattle.key_ranges.specs.declared.range.KeyRange.{KeyRange}
use Rattle.key_ranges.specs.Ranges.{records_in}
use Rattle.table_rows.specs.declared.part.SpanVisit.{SpanVisit}
use Rattle.table_rows.specs.declared.part.SpanVisit.TheVariants.{All, Before, Done}
use Rattle.table_rows.specs.HeldRows.{AreRecordsOf, SpellsRow}
use Rattle.table_rows.specs.Visits.{AnswerAfter}
use Rattle.table_rows.specs.Walked.{Walking}

-- a walk over a span of a map, which found a front of its records: the others are those from this key on
pub record WalksBefore {A : Type 0} (id : ℕ) (layout : Layout) (start stop : List ℕ) (map : Records) (old new : AnswerAfter A) (key : List ℕ) : Type 0 where
  pub later : is_from start key ≡ true
  pub walked : Walking id layout (span start stop map) (span key stop map) old new

-- a walk over the first rows of a span of a map came so far; it is done only if it may be
abbrev pub WalksTo : {A : Type 0} → ℕ → Layout → List ℕ → List ℕ → Records → AnswerAfter A → AnswerAfter A → Bool → SpanVisit → Type 0
WalksTo id layout start stop map old new may (All more) = Walking id layout (span start stop map) [] old new
WalksTo id layout start stop map old new may (Before key) = WalksBefore id layout start stop map old new key
WalksTo id layout start stop map old new may Done = may ≡ true

-- a walk over some records of a map, which found a front of them, each of which spells a row: behind its rows the same is answered as before. The others are those
-- in this range, or there is none
pub record WalksPart {A : Type 0} (id : ℕ) (layout : Layout) (map records : Records) (old new : AnswerAfter A) (left : Option KeyRange) : Type 0 where
  pub front : Records
  pub behind : Records
  pub parts : records ≡ front ++ behind
  pub others : MatchOption left (behind ≡ []) (λ range. behind ≡ records_in range map)
  pub spelled : AllByRecursion (SpellsRow layout) front
  pub same : (rows rest : List Row) → AreRecordsOf id layout rows front → old (rows ++ rest) ≡ new rest
