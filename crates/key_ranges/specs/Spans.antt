-- Spans of keys in their order.
use Rattle.std.specs.Prelude.{◌≡◌, ◌&&◌, if◌then◌else◌, ℕ, Bool, true, List, [], ◌∷◌}
use Rattle.std.specs.List.{list_any, AllByRecursion}
use Rattle.std.specs.declared.cmp.Ordering.TheVariants.{Less}
use Rattle.store.specs.Records.{key_cmp, is_from}
use Rattle.store.specs.Walks.{is_within}
use Rattle.key_ranges.specs.declared.spans.KeySpan.{KeySpan}

-- whether a key is from a start on, and comes before a stop or begins with it
abbrev pub is_between : List ℕ → List ℕ → List ℕ → Bool
is_between start stop key = is_from start key && is_within stop key

abbrev pub is_in_span : KeySpan → List ℕ → Bool
is_in_span s key = is_between s.start s.stop key

abbrev pub is_in_spans : List KeySpan → List ℕ → Bool
is_in_spans spans key = list_any (λ s. is_in_span s key) spans

-- the keys of one span come before those of another
abbrev pub SpanBefore : KeySpan → KeySpan → Type 0
SpanBefore first second = (k l : List ℕ) → is_in_span first k ≡ true → is_in_span second l ≡ true → key_cmp k l ≡ Less

-- spans in the order of their keys: no two have a key in common
abbrev pub AreSpansInOrder : List KeySpan → Type 0
AreSpansInOrder [] = Unit {0}
AreSpansInOrder (s ∷ spans) = AllByRecursion (SpanBefore s) spans × AreSpansInOrder spans

-- of a start and a key the one that does not come before the other
abbrev pub later_start : List ℕ → List ℕ → List ℕ
later_start start from = if is_from start from then from else start

-- the spans, of which the first begins at this key, if its start comes before it
abbrev pub begun_at : List ℕ → List KeySpan → List KeySpan
begun_at from [] = []
begun_at from (s ∷ spans) = record { start = later_start s.start from; stop = s.stop } ∷ spans

-- several spans, and one span around them
pub record Spans : Type 0 where
  pub start : List ℕ
  pub stop : List ℕ
  pub spans : List KeySpan

-- they are in their order, and have no key outside the one around them
pub record AreOrderedSpans (s : Spans) : Type 0 where
  pub in_order : AreSpansInOrder s.spans
  pub around : (key : List ℕ) → is_in_spans s.spans key ≡ true → is_between s.start s.stop key ≡ true
