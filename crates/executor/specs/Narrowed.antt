-- Keys, and ranges of keys, inside the range of a table.
use Rattle.std.specs.Prelude.{◌||◌, ℕ, Bool, true, if◌then◌else◌, List, [], ◌∷◌, flat_map, Option, Some, None}
use Rattle.std.specs.Borrow.{Bor}
use Rattle.std.specs.Ordering.{is_lt}
use Rattle.store.specs.Records.{key_cmp, has_prefix}
use Rattle.store.specs.Walks.{is_within}
use Rattle.key_ranges.specs.declared.range.KeyRange.{KeyRange}
use Rattle.key_ranges.specs.declared.range.KeyRange.TheVariants.{Point, Span}
use Rattle.key_ranges.specs.declared.spans.KeySpan.{KeySpan}
use Rattle.key_ranges.specs.Ranges.{is_in}
use Rattle.key_ranges.specs.Spans.{is_between, later_start}

-- whether the key is in the range, if there is one
abbrev pub is_in_range : Option (Bor KeyRange) → List ℕ → Bool
is_in_range None key = true
is_in_range (Some range) key = is_in range.now key

-- of two stops the one that only those keys are within that are within both: one that begins with the other, or the lesser
abbrev pub narrower : List ℕ → List ℕ → List ℕ
narrower b d = if has_prefix b d then d else (if has_prefix d b || is_lt (key_cmp b d) then b else d)

-- the keys of two spans that are in both, as one span, unless there are none
abbrev pub both_spans : List ℕ → List ℕ → List ℕ → List ℕ → List KeyRange
both_spans start stop first last = if is_within (narrower stop last) (later_start start first) then Span (later_start start first) (narrower stop last) ∷ [] else []

-- those of a span that are in each of others
abbrev pub both_of_each : List ℕ → List ℕ → List KeySpan → List KeyRange
both_of_each start stop spans = flat_map (λ s. both_spans start stop s.start s.stop) spans

-- a key, if it is in a span
abbrev pub point_between : List ℕ → List ℕ → List ℕ → List KeyRange
point_between start stop key = if is_between start stop key then Point key ∷ [] else []
