-- Spans merged one after the other.
use Rattle.std.proofs.Common.{◌≡◌, ◌<◌, ◌≤◌, ℕ, zero, suc, Bool, true, false, if◌then◌else◌, ◌++◌, List, [], ◌∷◌, drop, length, Option, Some, None, refl, sym, ap, subst, arith}
use Rattle.std.specs.List.{AllByRecursion}
use Rattle.store.specs.Records.{is_from}
use Rattle.store.specs.Walks.{is_within}
use Rattle.key_ranges.specs.declared.range.KeyRange.TheVariants.{Span}
use Rattle.key_ranges.specs.declared.spans.KeySpan.{KeySpan}
use Rattle.key_ranges.specs.Spans.{Spans, begun_at, is_between, is_in_span, is_in_spans, later_start, AreOrderedSpans, AreSpansInOrder, SpanBefore}
use Rattle.key_ranges.specs.InOrder.{merged, merged_after}
use Rattle.key_ranges.specs.TableRanges.{around_all, range_of_spans, several}
use Rattle.key_ranges.proofs.InOrders.{inside_all, and_both, both_and, from_trans, or_cases, or_left, or_right}

-- the spans that come of the last one, if there is one, and of others behind it
abbrev pub merged_with : Option KeySpan → List KeySpan → List KeySpan
merged_with None rest = merged rest
merged_with (Some r) rest = merged_after r rest

pub one_range : (spans front : List KeySpan) (s : KeySpan) → spans ≡ front ++ s ∷ [] → length spans ≤ 1 → range_of_spans spans ≡ Some (Span s.start s.stop)
one_range spans [] s is few = ap range_of_spans is
one_range spans (t ∷ front) s is few = absurd (omega (arith, few, ap length is, some front))
  where
    some : (xs : List KeySpan) → 1 ≤ length (xs ++ s ∷ [])
    some [] = omega arith
    some (x ∷ xs) = let later = some xs in omega (arith, later)

pub more_ranges : (spans : List KeySpan) → 1 < length spans → range_of_spans spans ≡ Some (several spans)
more_ranges [] more = absurd (omega (arith, more))
more_ranges (s ∷ []) more = absurd (omega (arith, more))
more_ranges (s ∷ t ∷ spans) more = refl

pub no_range : (spans : List KeySpan) → spans ≡ [] → range_of_spans spans ≡ None
no_range spans none = ap range_of_spans none

pub are_inside_all : (around : KeySpan) (spans all : List KeySpan) → around ≡ around_all spans → all ≡ spans → AreSpansInOrder spans → AreOrderedSpans (record { start = around.start; stop = around.stop; spans = all })
are_inside_all around spans all around_is all_is order = record {
  in_order = subst AreSpansInOrder (sym all_is) order;
  around = λ key h. subst (λ (a : KeySpan). is_in_span a key ≡ true) (sym around_is) (inside_all spans key (subst (λ (l : List KeySpan). is_in_spans l key ≡ true) all_is h));
}

-- ---- spans of which some are left

in_order_behind : (spans : List KeySpan) (i : ℕ) → AreSpansInOrder spans → AreSpansInOrder (drop i spans)
in_order_behind spans zero order = order
in_order_behind [] (suc i) order = tt
in_order_behind (s ∷ spans) (suc i) order = in_order_behind spans i order.1

in_some_behind : (spans : List KeySpan) (i : ℕ) (key : List ℕ) → is_in_spans (drop i spans) key ≡ true → is_in_spans spans key ≡ true
in_some_behind spans zero key h = h
in_some_behind [] (suc i) key h = cc
in_some_behind (s ∷ spans) (suc i) key h = or_right (is_in_span s key) (is_in_spans spans key) (in_some_behind spans i key h)

-- what is in the span that is begun is in the span
from_later_start : (start from key : List ℕ) → is_from (later_start start from) key ≡ true → is_from start key ≡ true
from_later_start start from key h = go (is_from start from) refl h
  where
    go : (b : Bool) → b ≡ is_from start from → is_from (if b then from else start) key ≡ true → is_from start key ≡ true
    go true e i = from_trans start from key (sym e) i
    go false e i = i

begun_within : (from : List ℕ) (s : KeySpan) (key : List ℕ) → is_in_span (record { start = later_start s.start from; stop = s.stop }) key ≡ true → is_in_span s key ≡ true
begun_within from s key h =
    let b = and_both (is_from (later_start s.start from) key) (is_within s.stop key) h in
    both_and (is_from s.start key) (is_within s.stop key) (from_later_start s.start from key b.0) b.1

begun_before : (from : List ℕ) (s : KeySpan) (spans : List KeySpan) → AllByRecursion (SpanBefore s) spans → AllByRecursion (SpanBefore (record { start = later_start s.start from; stop = s.stop })) spans
begun_before from s [] all = tt
begun_before from s (t ∷ spans) all = ((λ k l i j. all.0 k l (begun_within from s k i) j), begun_before from s spans all.1)

begun_in_order : (from : List ℕ) (spans : List KeySpan) → AreSpansInOrder spans → AreSpansInOrder (begun_at from spans)
begun_in_order from [] order = tt
begun_in_order from (s ∷ spans) order = (begun_before from s spans order.0, order.1)

begun_in : (from : List ℕ) (spans : List KeySpan) (key : List ℕ) → is_in_spans (begun_at from spans) key ≡ true → is_in_spans spans key ≡ true
begun_in from [] key h = h
begun_in from (s ∷ spans) key h =
    or_cases (is_in_span (record { start = later_start s.start from; stop = s.stop }) key) (is_in_spans spans key) h
    (λ i. or_left (is_in_span s key) (is_in_spans spans key) (begun_within from s key i))
    (λ i. or_right (is_in_span s key) (is_in_spans spans key) i)

pub begun_inside : (s : Spans) (i : ℕ) (from start stop : List ℕ) (left : List KeySpan) → AreOrderedSpans s → start ≡ s.start → stop ≡ s.stop → left ≡ begun_at from (drop i s.spans) → AreOrderedSpans (record { start = start; stop = stop; spans = left })
begun_inside s i from start stop left inside start_is stop_is is = record {
  in_order = subst AreSpansInOrder (sym is) (begun_in_order from (drop i s.spans) (in_order_behind s.spans i inside.in_order));
  around = λ key h.
      let there = inside.around key (in_some_behind s.spans i key (begun_in from (drop i s.spans) key (subst (λ (l : List KeySpan). is_in_spans l key ≡ true) is h))) in
      subst (λ (a : List ℕ). is_between a stop key ≡ true) (sym start_is) (subst (λ (b : List ℕ). is_between s.start b key ≡ true) (sym stop_is) there);
}
