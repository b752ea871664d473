-- A walk over a part of the rows of a target.
use Rattle.std.proofs.Common.{◌≡◌, ◌<◌, ◌+◌, drop, get_or, length, ℕ, Bool, true, false, if◌then◌else◌, List, [], ◌∷◌, ◌++◌, Some, None, Result, Ok, Err, IfErr, IfOk, refl, sym, ap, ◌∙◌, subst}
use Rattle.std.specs.List.{AllByRecursion}
use Rattle.sql_ast.specs.Layout.{Layout}
use Rattle.store.specs.Records.{Record, Records, IsOrdered, entries_where, first, is_from}
use Rattle.store.specs.Walks.{is_within, span}
use Rattle.store.proofs.Changes.{ordered_entries_where}
use Rattle.store.proofs.Walking.{none_within, span_goes_on}
use Rattle.key_ranges.specs.declared.range.KeyRange.{KeyRange}
use Rattle.key_ranges.specs.declared.range.KeyRange.TheVariants.{Span, Several}
use Rattle.key_ranges.specs.declared.spans.KeySpan.{KeySpan}
use Rattle.key_ranges.specs.Spans.{Spans, begun_at, is_in_spans, AreOrderedSpans, AreSpansInOrder}
use Rattle.key_ranges.specs.Ranges.{records_in}
use Rattle.table_rows.specs.HeldRows.{SpellsRow}
use Rattle.table_rows.specs.declared.part.SpanVisit.{SpanVisit}
use Rattle.table_rows.specs.declared.part.SpanVisit.TheVariants.{All, Before, Done as Ended}
use Rattle.table_rows.specs.declared.visit.Flow.{Flow}
use Rattle.table_rows.specs.declared.visit.Flow.TheVariants.{Continue, Done}
use Rattle.table_rows.specs.Visits.{AnswerAfter, VisitsRecord, IsDoneOnlyIf}
use Rattle.table_rows.specs.Walked.{Walking, WalksOn}
use Rattle.table_rows.specs.Parts.{WalksBefore, WalksPart, WalksTo}
use Rattle.table_rows.proofs.Fronts.{walking_joined, walking_on, visited_on}
use Rattle.table_rows.proofs.SpanWalks.{begun_entries, from_longer, next_span, passes_test}

-- ---- the records behind one of a span

-- behind the first
first_behind : (start stop : List ℕ) (es : Records) (e : Record) (later : Records) → IsOrdered es → span start stop es ≡ e ∷ later → span (e.0 ++ 0 ∷ []) stop es ≡ later
first_behind start stop es e later o is = go (entries_where (is_from start) es) refl (ordered_entries_where (is_from start) es o) is
  where
    from_first : (x : Record) → span start stop es ≡ x ∷ span (x.0 ++ 0 ∷ []) stop es → span (e.0 ++ 0 ∷ []) stop es ≡ later
    from_first x goes =
        let both : x ∷ span (x.0 ++ 0 ∷ []) stop es ≡ e ∷ later = sym goes ∙ is in
        let same : x ≡ e = cc in
        let rest : span (x.0 ++ 0 ∷ []) stop es ≡ later = cc in
        subst (λ (z : Record). span (z.0 ++ 0 ∷ []) stop es ≡ later) same rest

    within : (x : Record) (xs : Records) → x ∷ xs ≡ entries_where (is_from start) es → IsOrdered (x ∷ xs) → (b : Bool) → b ≡ is_within stop x.0
        → (if b then x ∷ entries_where (is_within stop) xs else entries_where (is_within stop) xs) ≡ e ∷ later → span (e.0 ++ 0 ∷ []) stop es ≡ later
    within x xs i ordered true h f = from_first x (span_goes_on stop start es x o (ap first (sym i)) (sym h))
    within x xs i ordered false h f = let none : entries_where (is_within stop) xs ≡ [] = none_within stop x.0 xs (sym h) ordered.0 in cc

    go : (xs : Records) → xs ≡ entries_where (is_from start) es → IsOrdered xs → entries_where (is_within stop) xs ≡ e ∷ later → span (e.0 ++ 0 ∷ []) stop es ≡ later
    go [] i ordered f = cc
    go (x ∷ xs) i ordered f = within x xs i ordered (is_within stop x.0) refl f

-- behind one that stands behind others
span_behind : (front : Records) (start stop : List ℕ) (es : Records) (e : Record) (later : Records) → IsOrdered es → span start stop es ≡ front ++ e ∷ later → span (e.0 ++ 0 ∷ []) stop es ≡ later
span_behind [] start stop es e later o is = first_behind start stop es e later o is
span_behind (f ∷ front) start stop es e later o is = span_behind front (f.0 ++ 0 ∷ []) stop es e later o (first_behind start stop es f (front ++ e ∷ later) o is)

-- a record of a span is from its start on
from_found : (front : Records) (start stop : List ℕ) (es : Records) (e : Record) (later : Records) → span start stop es ≡ front ++ e ∷ later → is_from start e.0 ≡ true
from_found front start stop es e later is = there front (span start stop es) is (within (entries_where (is_from start) es) (passes_test (is_from start) es))
  where
    within : (xs : Records) → AllByRecursion (λ (x : Record). is_from start x.0 ≡ true) xs → AllByRecursion (λ (x : Record). is_from start x.0 ≡ true) (entries_where (is_within stop) xs)
    within [] all = tt
    within (x ∷ xs) all = go (is_within stop x.0) (within xs all.1)
      where
        go : (b : Bool) → AllByRecursion (λ (y : Record). is_from start y.0 ≡ true) (entries_where (is_within stop) xs) → AllByRecursion (λ (y : Record). is_from start y.0 ≡ true) (if b then x ∷ entries_where (is_within stop) xs else entries_where (is_within stop) xs)
        go true rest = (all.0, rest)
        go false rest = rest

    there : (f xs : Records) → xs ≡ f ++ e ∷ later → AllByRecursion (λ (x : Record). is_from start x.0 ≡ true) xs → is_from start e.0 ≡ true
    there [] [] i all = cc
    there [] (x ∷ xs) i all = let same : x ≡ e = cc in subst (λ (z : Record). is_from start z.0 ≡ true) same all.0
    there (y ∷ f) [] i all = cc
    there (y ∷ f) (x ∷ xs) i all = let rest : xs ≡ f ++ e ∷ later = cc in there f xs rest all.1

pub same_walk : {A : Type 0} (id : ℕ) (layout : Layout) (a b start stop : List ℕ) (es fs : Records) (old new : AnswerAfter A) (may : Bool) (visited : SpanVisit) → a ≡ start → b ≡ stop → es ≡ fs
    → WalksTo id layout a b es old new may visited → WalksTo id layout start stop fs old new may visited
same_walk id layout a b start stop es fs old new may visited p q r walks =
    subst (λ (l : Records). WalksTo id layout start stop l old new may visited) r
    (subst (λ (k : List ℕ). WalksTo id layout start k es old new may visited) q (subst (λ (k : List ℕ). WalksTo id layout k b es old new may visited) p walks))

-- ---- the walk

module _ {A : Type 0} (id : ℕ) (layout : Layout) (map : Records) where
  -- the walk stops behind a record
  pub before_on : (start stop : List ℕ) (left later : Records) (entry : Record) (old now next : AnswerAfter A) (flow : Flow) (key : List ℕ) → IsOrdered map → Walking id layout (span start stop map) left old now
      → left ≡ entry ∷ later → flow ≡ Continue → SpellsRow layout entry → VisitsRecord id layout entry (Ok flow) now next → key ≡ entry.0 ++ 0 ∷ []
      → WalksBefore id layout start stop map old next key
  before_on start stop left later entry old now next flow key ordered w is on spells visits key_is =
      let found : span start stop map ≡ w.front ++ entry ∷ later = w.parts ∙ ap (λ (l : Records). w.front ++ l) is in
      let w_next = walking_on id layout (span start stop map) left later entry old now next w is spells (visited_on id layout flow entry now next on visits) in
      let others : later ≡ span key stop map = sym (ap (λ (k : List ℕ). span k stop map) key_is ∙ span_behind w.front start stop map entry later ordered found) in
      record {
        later = subst (λ (k : List ℕ). is_from start k ≡ true) (sym key_is) (from_longer start entry.0 (from_found w.front start stop map entry later found));
        walked = subst (λ (l : Records). Walking id layout (span start stop map) l old next) others w_next;
      }

  -- of a span all was visited, or it goes on
  pub part_all : (records : Records) (old now : AnswerAfter A) → Walking id layout records [] old now → WalksPart id layout map records old now None
  part_all records old now w = record { front = w.front; behind = []; parts = w.parts; others = refl; spelled = w.spelled; same = w.same }

  pub part_before : (records behind : Records) (old now : AnswerAfter A) (range : KeyRange) → Walking id layout records behind old now → behind ≡ records_in range map → WalksPart id layout map records old now (Some range)
  part_before records behind old now range w is = record { front = w.front; behind = behind; parts = w.parts; others = is; spelled = w.spelled; same = w.same }

  pub part_flow : (may : Bool) (flow : Flow) (records : Records) (old now : AnswerAfter A) → may ≡ false → IsDoneOnlyIf may (Ok flow) → WalksOn id layout records old now (Ok flow) → WalksPart id layout map records old now None
  part_flow may Continue records old now never only w = part_all records old now w
  part_flow may Done records old now never only w = cc

  -- ---- by how far a walk over a span came

  pub all_part : (start stop : List ℕ) (old new : AnswerAfter A) (may : Bool) (visited : SpanVisit) (more : ℕ) → visited ≡ All more → WalksTo id layout start stop map old new may visited → WalksPart id layout map (span start stop map) old new None
  all_part start stop old new may visited more is walks = part_all (span start stop map) old new (subst (λ (v : SpanVisit). WalksTo id layout start stop map old new may v) is walks)

  pub done_part : (start stop : List ℕ) (now old new : AnswerAfter A) (may : Bool) (visited : SpanVisit) (records : Records) → may ≡ false → visited ≡ Ended → WalksTo id layout start stop map now new may visited → WalksPart id layout map records old new None
  done_part start stop now old new may visited records never is walks = let may_be : may ≡ true = subst (λ (v : SpanVisit). WalksTo id layout start stop map now new may v) is walks in cc

  pub before_part : (start stop : List ℕ) (old new : AnswerAfter A) (may : Bool) (visited : SpanVisit) (key : List ℕ) (range : KeyRange) → visited ≡ Before key → range ≡ Span key stop → WalksTo id layout start stop map old new may visited
      → WalksPart id layout map (span start stop map) old new (Some range)
  before_part start stop old new may visited key range is range_is walks =
      let before : WalksBefore id layout start stop map old new key = subst (λ (v : SpanVisit). WalksTo id layout start stop map old new may v) is walks in
      part_before (span start stop map) (span key stop map) old new range before.walked (sym (ap (λ (r : KeyRange). records_in r map) range_is))

  -- in one of several spans a walk stops: the others are in those that still come, of which it begins at a key
  pub several_part : (spans : List KeySpan) (i : ℕ) (s : KeySpan) (old now new : AnswerAfter A) (may : Bool) (visited : SpanVisit) (from : List ℕ) (left : Spans) (range : KeyRange) → IsOrdered map → AreSpansInOrder spans → s ≡ get_or spans i s → i < length spans
      → Walking id layout (entries_where (is_in_spans spans) map) (entries_where (is_in_spans (drop i spans)) map) old now → visited ≡ Before from → WalksTo id layout s.start s.stop map now new may visited
      → AreOrderedSpans left → left.spans ≡ begun_at from (drop i spans) → range ≡ Several left → WalksPart id layout map (entries_where (is_in_spans spans) map) old new (Some range)
  several_part spans i s old now new may visited from left range ordered order is lt w before walks inside left_is range_is =
      let stopped : WalksBefore id layout s.start s.stop map now new from = subst (λ (v : SpanVisit). WalksTo id layout s.start s.stop map now new may v) before walks in
      let later = entries_where (is_in_spans (drop (i + 1) spans)) map in
      let next = next_span spans i s map ordered order is lt in
      let joined = walking_joined id layout (entries_where (is_in_spans spans) map) (span s.start s.stop map) later (span from s.stop map) old now new
      (subst (λ (es : Records). Walking id layout (entries_where (is_in_spans spans) map) es old now) next w) stopped.walked in
      let begun = begun_entries spans i s from map ordered is lt stopped.later (subst AreSpansInOrder left_is inside.in_order) in
      part_before (entries_where (is_in_spans spans) map) (span from s.stop map ++ later) old new range joined
      (sym begun ∙ ap (λ (l : List KeySpan). entries_where (is_in_spans l) map) (sym left_is) ∙ sym (ap (λ (r : KeyRange). records_in r map) range_is))

  pub several_on : (spans : List KeySpan) (i : ℕ) (s : KeySpan) (old now new : AnswerAfter A) (may : Bool) (visited : SpanVisit) (more : ℕ) → IsOrdered map → AreSpansInOrder spans → s ≡ get_or spans i s → i < length spans
      → Walking id layout (entries_where (is_in_spans spans) map) (entries_where (is_in_spans (drop i spans)) map) old now → visited ≡ All more → WalksTo id layout s.start s.stop map now new may visited
      → Walking id layout (entries_where (is_in_spans spans) map) (entries_where (is_in_spans (drop (i + 1) spans)) map) old new
  several_on spans i s old now new may visited more ordered order is lt w all walks =
      walking_joined id layout (entries_where (is_in_spans spans) map) (span s.start s.stop map) (entries_where (is_in_spans (drop (i + 1) spans)) map) [] old now new
      (subst (λ (es : Records). Walking id layout (entries_where (is_in_spans spans) map) es old now) (next_span spans i s map ordered order is lt) w)
      (subst (λ (v : SpanVisit). WalksTo id layout s.start s.stop map now new may v) all walks)

-- what is said of what a call gives
pub said : {X E : Type 0} (r : Result X E) (P Q : X → Type 0) → ((x : X) → P x → Q x) → IfOk r P → IfOk r Q
said (Ok x) P Q less h = less x h
said (Err e) P Q less h = tt

-- what is said of how it fails
pub failing : {X E : Type 0} (r : Result X E) (P Q : E → Type 0) → ((e : E) → P e → Q e) → IfErr r P → IfErr r Q
failing (Ok x) P Q less h = tt
failing (Err e) P Q less h = less e h
