-- The range of spans that are merged: it has all their keys, and keys of their table alone.
use Rattle.std.proofs.Common.{◌≡◌, ◌||◌, ℕ, Some, None, Bool, true, false, if◌then◌else◌, List, [], ◌∷◌, refl, sym, subst, ◌∙◌}
use Rattle.std.specs.List.{AllByRecursion}
use Rattle.std.specs.Ordering.{is_lt}
use Rattle.store.specs.Records.{key_cmp, is_from, has_prefix}
use Rattle.store.specs.Walks.{is_within}
use Rattle.row_codec.specs.Rows.{row_prefix}
use Rattle.key_ranges.specs.declared.range.KeyRange.{KeyRange}
use Rattle.key_ranges.specs.declared.range.KeyRange.TheVariants.{Span}
use Rattle.key_ranges.specs.declared.spans.KeySpan.{KeySpan}
use Rattle.key_ranges.specs.Ranges.{is_in, IsRangeOf, IsSpanOf}
use Rattle.key_ranges.specs.Spans.{is_in_span, is_in_spans}
use Rattle.key_ranges.specs.TableRanges.{range_of_spans, several}
use Rattle.key_ranges.specs.InOrder.{hull, merged, merged_after, put_by_start, by_start}
use Rattle.key_ranges.proofs.InOrders.{merged_loses_nothing, never_falls, or_cases, ordered_has, put_behind}

-- ---- spans of one table

put_of : (id : ℕ) (s : KeySpan) (ts : List KeySpan) → IsSpanOf id s → AllByRecursion (IsSpanOf id) ts → AllByRecursion (IsSpanOf id) (put_by_start s ts)
put_of id s [] of all = (of, tt)
put_of id s (t ∷ ts) of all = subst (AllByRecursion (IsSpanOf id)) (sym (put_behind s t ts)) (go (is_from s.start t.start) (put_of id s ts of all.1))
  where
    go : (b : Bool) → AllByRecursion (IsSpanOf id) (put_by_start s ts) → AllByRecursion (IsSpanOf id) (if b then s ∷ t ∷ ts else t ∷ put_by_start s ts)
    go true later = (of, all)
    go false later = (all.0, later)

pub ordered_of : (id : ℕ) (spans : List KeySpan) → AllByRecursion (IsSpanOf id) spans → AllByRecursion (IsSpanOf id) (by_start spans)
ordered_of id [] all = tt
ordered_of id (s ∷ ss) all = put_of id s (by_start ss) all.0 (ordered_of id ss all.1)

hull_of : (id : ℕ) (r s : KeySpan) → IsSpanOf id r → IsSpanOf id s → IsSpanOf id (hull r s)
hull_of id r s of_r of_s = (of_r.0, by_stop (has_prefix r.stop s.stop) (has_prefix s.stop r.stop || is_lt (key_cmp r.stop s.stop)))
  where
    by_stop : (p q : Bool) → has_prefix (row_prefix id) (if p then r.stop else (if q then s.stop else r.stop)) ≡ true
    by_stop true q = of_r.1
    by_stop false true = of_s.1
    by_stop false false = of_r.1

after_of : (id : ℕ) (r : KeySpan) (ss : List KeySpan) → IsSpanOf id r → AllByRecursion (IsSpanOf id) ss → AllByRecursion (IsSpanOf id) (merged_after r ss)
after_of id r [] of all = (of, tt)
after_of id r (s ∷ ss) of all = go (is_within r.stop s.start) (after_of id (hull r s) ss (hull_of id r s of all.0) all.1) (after_of id s ss all.0 all.1)
  where
    go : (b : Bool) → AllByRecursion (IsSpanOf id) (merged_after (hull r s) ss) → AllByRecursion (IsSpanOf id) (merged_after s ss) → AllByRecursion (IsSpanOf id) (if b then merged_after (hull r s) ss else r ∷ merged_after s ss)
    go true one apart = one
    go false one apart = (of, apart)

merged_of : (id : ℕ) (spans : List KeySpan) → AllByRecursion (IsSpanOf id) spans → AllByRecursion (IsSpanOf id) (merged spans)
merged_of id [] all = tt
merged_of id (r ∷ rs) all = after_of id r rs all.0 all.1

-- ---- one range

range_has : (spans : List KeySpan) (range : KeyRange) (key : List ℕ) → range_of_spans spans ≡ Some range → is_in_spans spans key ≡ true → is_in range key ≡ true
range_has [] range key h i = cc
range_has (s ∷ []) range key h i =
    let same : Span s.start s.stop ≡ range = cc in
    subst (λ r. is_in r key ≡ true) same (or_cases (is_in_span s key) false i (λ j. j) (λ j. cc))
range_has (s ∷ t ∷ ss) range key h i =
    let same : several (s ∷ t ∷ ss) ≡ range = cc in
    subst (λ r. is_in r key ≡ true) same i

range_of_table : (id : ℕ) (spans : List KeySpan) (range : KeyRange) → range_of_spans spans ≡ Some range → AllByRecursion (IsSpanOf id) spans → IsRangeOf id range
range_of_table id [] range h all = cc
range_of_table id (s ∷ []) range h all = let same : Span s.start s.stop ≡ range = cc in subst (λ r. IsRangeOf id r) same all.0
range_of_table id (s ∷ t ∷ ss) range h all = let same : several (s ∷ t ∷ ss) ≡ range = cc in subst (λ r. IsRangeOf id r) same all

-- the range of spans has all their keys, and keys of their table alone
pub joined_has : (spans : List KeySpan) (range : KeyRange) (key : List ℕ) → range_of_spans (merged (by_start spans)) ≡ Some range → is_in_spans spans key ≡ true → is_in range key ≡ true
joined_has spans range key h i = range_has (merged (by_start spans)) range key h ((merged_loses_nothing (by_start spans) (never_falls spans)).1 key (ordered_has spans key i))

pub joined_of : (id : ℕ) (spans : List KeySpan) (range : KeyRange) → range_of_spans (merged (by_start spans)) ≡ Some range → AllByRecursion (IsSpanOf id) spans → IsRangeOf id range
joined_of id spans range h all = range_of_table id (merged (by_start spans)) range h (merged_of id (by_start spans) (ordered_of id spans all))

-- there is a range of one span or more
put_some : (s : KeySpan) (ts : List KeySpan) → put_by_start s ts ≡ [] → ⊥
put_some s [] h = cc
put_some s (t ∷ ts) h = go (is_from s.start t.start) (sym (put_behind s t ts) ∙ h)
  where
    go : (b : Bool) → (if b then s ∷ t ∷ ts else t ∷ put_by_start s ts) ≡ [] → ⊥
    go true e = cc
    go false e = cc

after_some : (r : KeySpan) (ss : List KeySpan) → merged_after r ss ≡ [] → ⊥
after_some r [] h = cc
after_some r (s ∷ ss) h = go (is_within r.stop s.start) h (after_some (hull r s) ss)
  where
    go : (b : Bool) → (if b then merged_after (hull r s) ss else r ∷ merged_after s ss) ≡ [] → (merged_after (hull r s) ss ≡ [] → ⊥) → ⊥
    go true e one = one e
    go false e one = cc

pub joined_some : (s : KeySpan) (ss : List KeySpan) → range_of_spans (merged (by_start (s ∷ ss))) ≡ None → ⊥
joined_some s ss h = go (by_start (s ∷ ss)) refl h
  where
    none : (spans : List KeySpan) → range_of_spans spans ≡ None → spans ≡ []
    none [] e = refl
    none (a ∷ []) e = cc
    none (a ∷ b ∷ rest) e = cc

    go : (l : List KeySpan) → l ≡ by_start (s ∷ ss) → range_of_spans (merged l) ≡ None → ⊥
    go [] e f = put_some s (by_start ss) (sym e)
    go (r ∷ rs) e f = after_some r rs (none (merged_after r rs) f)
