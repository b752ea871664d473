-- Spans made into spans in order, which have all their keys.
use Rattle.std.specs.Prelude.{◌≡◌, ◌||◌, ℕ, not, true, if◌then◌else◌, List, [], ◌∷◌}
use Rattle.std.specs.List.{insert, prefix_len, AllByRecursion}
use Rattle.std.specs.Ordering.{is_lt}
use Rattle.store.specs.Records.{key_cmp, is_from, has_prefix}
use Rattle.store.specs.Walks.{is_within}
use Rattle.key_ranges.specs.declared.spans.KeySpan.{KeySpan}
use Rattle.key_ranges.specs.Spans.{is_in_spans, AreSpansInOrder}

-- ---- by their starts

-- a span put behind those at the front that start before it
abbrev pub put_by_start : KeySpan → List KeySpan → List KeySpan
put_by_start s spans = insert spans (prefix_len (λ t. not (is_from s.start t.start)) spans) s

abbrev pub by_start : List KeySpan → List KeySpan
by_start [] = []
by_start (s ∷ ss) = put_by_start s (by_start ss)

-- no span starts before one that stands before it
abbrev pub StartFrom : List ℕ → List KeySpan → Type 0
StartFrom start spans = AllByRecursion (λ s. is_from start s.start ≡ true) spans

abbrev pub StartsNeverFall : List KeySpan → Type 0
StartsNeverFall [] = Unit {0}
StartsNeverFall (r ∷ rs) = StartFrom r.start rs × StartsNeverFall rs

-- ---- merged

-- of two stops the one that all keys are within that are within either: one that the other begins with, or the greater
abbrev pub wider : List ℕ → List ℕ → List ℕ
wider b d = if has_prefix b d then b else (if has_prefix d b || is_lt (key_cmp b d) then d else b)

-- one span for two, of which the second does not start before the first
abbrev pub hull : KeySpan → KeySpan → KeySpan
hull r s = record { start = r.start; stop = wider r.stop s.stop }

-- a span, and behind it spans that do not start before it: those that do not come after it become one with it
abbrev pub merged_after : KeySpan → List KeySpan → List KeySpan
merged_after r [] = r ∷ []
merged_after r (s ∷ ss) = if is_within r.stop s.start then merged_after (hull r s) ss else r ∷ merged_after s ss

abbrev pub merged : List KeySpan → List KeySpan
merged [] = []
merged (r ∷ rs) = merged_after r rs

-- in order of their starts spans never fall, and all keys are there
abbrev pub OrderedLosesNothing : Type 0
OrderedLosesNothing = (spans : List KeySpan) → StartsNeverFall (by_start spans) × ((key : List ℕ) → is_in_spans spans key ≡ true → is_in_spans (by_start spans) key ≡ true)

-- of spans whose starts never fall: they are in order then, and no key is lost
abbrev pub MergedLosesNothing : Type 0
MergedLosesNothing = (spans : List KeySpan) → StartsNeverFall spans → AreSpansInOrder (merged spans) × ((key : List ℕ) → is_in_spans spans key ≡ true → is_in_spans (merged spans) key ≡ true)

-- ---- one span around all

-- of two starts the one that comes first
abbrev pub first_start : List ℕ → List ℕ → List ℕ
first_start a b = if is_from a b then a else b

-- of this start and those of spans the one that comes first
abbrev pub least_start : List ℕ → List KeySpan → List ℕ
least_start start [] = start
least_start start (s ∷ ss) = least_start (first_start start s.start) ss

-- of this stop and those of spans the one that all keys are within
abbrev pub widest_stop : List ℕ → List KeySpan → List ℕ
widest_stop stop [] = stop
widest_stop stop (s ∷ ss) = widest_stop (wider stop s.stop) ss
