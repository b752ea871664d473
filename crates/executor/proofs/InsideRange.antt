-- Ranges of keys inside another: they have the keys that are in both, and stand in their order.
use Rattle.std.proofs.Common.{◌≡◌, ℕ, Bool, true, false, not, ◌&&◌, ◌||◌, if◌then◌else◌, List, [], ◌∷◌, ◌++◌, flat_map, Option, Some, Bor, refl, sym, ap, subst, ◌∙◌}
use Rattle.std.specs.List.{AllByRecursion}
use Rattle.std.specs.declared.cmp.Ordering.{Ordering}
use Rattle.std.specs.declared.cmp.Ordering.TheVariants.{Less, Equal, Greater}
use Rattle.std.specs.Ordering.{is_eq, is_lt}
use Rattle.store.specs.Records.{key_cmp, is_from, is_not_less, has_prefix}
use Rattle.store.specs.Walks.{is_within}
use Rattle.store.proofs.Changes.{after, reversed, same_key}
use Rattle.store.proofs.Walking.{stays_past}
use Rattle.key_ranges.specs.declared.range.KeyRange.{KeyRange}
use Rattle.key_ranges.specs.declared.range.KeyRange.TheVariants.{Point, Span, Several}
use Rattle.key_ranges.specs.declared.spans.KeySpan.{KeySpan}
use Rattle.key_ranges.specs.InOrder.{wider}
use Rattle.key_ranges.specs.Ranges.{is_in, is_in_any, AreInOrder, ComesBefore}
use Rattle.key_ranges.specs.Spans.{is_between, is_in_span, is_in_spans, later_start, AreOrderedSpans, AreSpansInOrder, SpanBefore, Spans}
use Rattle.key_ranges.proofs.InOrders.{and_both, both_and, from_trans, inside_all, or_cases, or_left, or_right}
use Rattle.key_ranges.proofs.Within.{ordered_equal}
use Rattle.executor.specs.Narrowed.{both_of_each, both_spans, is_in_range, narrower, point_between}
use Rattle.executor.proofs.MoreRanges.{either_any}

-- ---- tests

-- two tests are one where either follows from the other
both_ways : (a b : Bool) → (a ≡ true → b ≡ true) → (b ≡ true → a ≡ true) → a ≡ b
both_ways true b h k = sym (h refl)
both_ways false true h k = k refl
both_ways false false h k = refl

false_or : (b : Bool) → (b || false) ≡ b
false_or true = refl
false_or false = refl

-- ---- starts and stops

not_from : (a b : List ℕ) → is_from a b ≡ false → is_from b a ≡ true
not_from a b h = go (key_cmp b a) refl h
  where
    go : (o : Ordering) → o ≡ key_cmp b a → is_not_less o ≡ false → is_from b a ≡ true
    go Less e f = ap is_not_less (after b a (sym e))
    go Equal e f = cc
    go Greater e f = cc

-- a key is from the later of two starts on where it is from both on
from_later : (start first key : List ℕ) → is_from (later_start start first) key ≡ (is_from start key && is_from first key)
from_later start first key = go (is_from start first) refl
  where
    go : (b : Bool) → b ≡ is_from start first → is_from (if b then first else start) key ≡ (is_from start key && is_from first key)
    go true e =
        both_ways (is_from first key) (is_from start key && is_from first key)
        (λ h. both_and (is_from start key) (is_from first key) (from_trans start first key (sym e) h) h)
        (λ h. (and_both (is_from start key) (is_from first key) h).1)
    go false e =
        both_ways (is_from start key) (is_from start key && is_from first key)
        (λ h. both_and (is_from start key) (is_from first key) h (from_trans first start key (not_from start first (sym e)) h))
        (λ h. (and_both (is_from start key) (is_from first key) h).0)

from_empty : (key : List ℕ) → is_from [] key ≡ true
from_empty [] = refl
from_empty (x ∷ key) = refl

-- what is within one of two stops is within the wider one
within_wider : (b d key : List ℕ) → (is_within b key || is_within d key) ≡ true → is_within (wider b d) key ≡ true
within_wider b d key h =
    (and_both (is_from [] key) (is_within (wider b d) key)
    (inside_all (record { start = []; stop = b } ∷ record { start = []; stop = d } ∷ []) key
    (or_cases (is_within b key) (is_within d key) h
    (λ i. or_left (is_between [] b key) (is_between [] d key || false) (both_and (is_from [] key) (is_within b key) (from_empty key) i))
    (λ i. or_right (is_between [] b key) (is_between [] d key || false) (false_or (is_between [] d key) ∙ both_and (is_from [] key) (is_within d key) (from_empty key) i))))).1

-- a key is within the narrower of two stops where it is within both
within_narrower : (b d key : List ℕ) → is_within (narrower b d) key ≡ (is_within b key && is_within d key)
within_narrower b d key = go (has_prefix b d) refl (has_prefix d b || is_lt (key_cmp b d)) refl
  where
    one_of : (p q : Bool) → p ≡ has_prefix b d → q ≡ (has_prefix d b || is_lt (key_cmp b d)) → wider b d ≡ (if p then b else (if q then d else b))
    one_of p q e f = ap (λ (x : Bool). if x then b else (if has_prefix d b || is_lt (key_cmp b d) then d else b)) (sym e) ∙ ap (λ (y : Bool). if p then b else (if y then d else b)) (sym f)

    second : is_within b key ≡ true → (wide : List ℕ) → wider b d ≡ wide → is_within wide key ≡ true
    second h wide e = subst (λ (s : List ℕ). is_within s key ≡ true) e (within_wider b d key (or_left (is_within b key) (is_within d key) h))

    first : is_within d key ≡ true → (wide : List ℕ) → wider b d ≡ wide → is_within wide key ≡ true
    first h wide e = subst (λ (s : List ℕ). is_within s key ≡ true) e (within_wider b d key (or_right (is_within b key) (is_within d key) h))

    of_second : wider b d ≡ b → is_within d key ≡ (is_within b key && is_within d key)
    of_second e = both_ways (is_within d key) (is_within b key && is_within d key) (λ h. both_and (is_within b key) (is_within d key) (first h b e) h) (λ h. (and_both (is_within b key) (is_within d key) h).1)

    of_first : wider b d ≡ d → is_within b key ≡ (is_within b key && is_within d key)
    of_first e = both_ways (is_within b key) (is_within b key && is_within d key) (λ h. both_and (is_within b key) (is_within d key) h (second h d e)) (λ h. (and_both (is_within b key) (is_within d key) h).0)

    go : (p : Bool) → p ≡ has_prefix b d → (q : Bool) → q ≡ (has_prefix d b || is_lt (key_cmp b d)) → is_within (if p then d else (if q then b else d)) key ≡ (is_within b key && is_within d key)
    go true e q f = of_second (one_of true q e f)
    go false e true f = of_first (one_of false true e f)
    go false e false f = of_second (one_of false false e f)

-- what is within a stop comes before what is not
within_before : (stop k e : List ℕ) → is_within stop k ≡ true → is_within stop e ≡ false → key_cmp k e ≡ Less
within_before stop k e h out = go (key_cmp k e) refl
  where
    go : (o : Ordering) → o ≡ key_cmp k e → key_cmp k e ≡ Less
    go Less f = sym f
    go Equal f = let same = same_key k e (sym f) in let wrong : is_within stop e ≡ true = subst (λ x. is_within stop x ≡ true) same h in cc
    go Greater f = let wrong : is_within stop k ≡ false = stays_past stop e k out (reversed k e (sym f)) in cc

-- ---- two spans

four : (a b c d : Bool) → ((a && b) && (c && d)) ≡ ((a && c) && (b && d))
four true true c d = refl
four true false true d = refl
four true false false d = refl
four false b c d = refl

-- a key is in both of two spans where it is in what is made of them
in_both : (start stop first last key : List ℕ) → is_in_any (both_spans start stop first last) key ≡ (is_between start stop key && is_between first last key)
in_both start stop first last key = go (is_within to from) refl
  where
    from : List ℕ
    from = later_start start first

    to : List ℕ
    to = narrower stop last

    of_both : is_between from to key ≡ (is_between start stop key && is_between first last key)
    of_both =
        ap (λ (b : Bool). b && is_within to key) (from_later start first key) ∙ ap (λ (b : Bool). (is_from start key && is_from first key) && b) (within_narrower stop last key)
        ∙ four (is_from start key) (is_from first key) (is_within stop key) (is_within last key)

    none : is_within to from ≡ false → false ≡ is_between from to key
    none out = both_ways false (is_between from to key) (λ h. cc) (λ h. let b = and_both (is_from from key) (is_within to key) h in apart (within_before to key from b.1 out) b.0)
      where
        apart : key_cmp key from ≡ Less → is_from from key ≡ true → false ≡ true
        apart less h = sym (ap is_not_less less) ∙ h

    go : (b : Bool) → b ≡ is_within to from → is_in_any (if b then Span from to ∷ [] else []) key ≡ (is_between start stop key && is_between first last key)
    go true e = false_or (is_between from to key) ∙ of_both
    go false e = none (sym e) ∙ of_both

shared_or : (a b c : Bool) → ((a && b) || (a && c)) ≡ (a && (b || c))
shared_or true b c = refl
shared_or false b c = refl

in_each : (start stop : List ℕ) (spans : List KeySpan) (key : List ℕ) → is_in_any (both_of_each start stop spans) key ≡ (is_between start stop key && is_in_spans spans key)
in_each start stop [] key = none (is_between start stop key)
  where
    none : (b : Bool) → false ≡ (b && false)
    none true = refl
    none false = refl
in_each start stop (s ∷ spans) key =
    either_any (both_spans start stop s.start s.stop) (both_of_each start stop spans) key
    ∙ ap (λ (b : Bool). b || is_in_any (both_of_each start stop spans) key) (in_both start stop s.start s.stop key)
    ∙ ap (λ (b : Bool). (is_between start stop key && is_in_span s key) || b) (in_each start stop spans key)
    ∙ shared_or (is_between start stop key) (is_in_span s key) (is_in_spans spans key)

-- ---- their order

before_any : (s : KeySpan) (spans : List KeySpan) → AllByRecursion (SpanBefore s) spans → (k l : List ℕ) → is_in_span s k ≡ true → is_in_spans spans l ≡ true → key_cmp k l ≡ Less
before_any s [] all k l i j = cc
before_any s (t ∷ spans) all k l i j = or_cases (is_in_span t l) (is_in_spans spans l) j (λ h. all.0 k l i h) (λ h. before_any s spans all.1 k l i h)

-- a range comes before ranges of which all keys come behind its own
comes_before : (r : KeyRange) (ranges : List KeyRange) → ((k l : List ℕ) → is_in r k ≡ true → is_in_any ranges l ≡ true → key_cmp k l ≡ Less) → AllByRecursion (ComesBefore r) ranges
comes_before r [] h = tt
comes_before r (range ∷ ranges) h = (λ k l i j. h k l i (or_left (is_in range l) (is_in_any ranges l) j), comes_before r ranges (λ k l i j. h k l i (or_right (is_in range l) (is_in_any ranges l) j)))

-- at most one range, and others behind it
two_in_order : (b : Bool) (r : KeyRange) (ranges : List KeyRange) → ((k l : List ℕ) → is_in_any (if b then r ∷ [] else []) k ≡ true → is_in_any ranges l ≡ true → key_cmp k l ≡ Less) → AreInOrder ranges → AreInOrder ((if b then r ∷ [] else []) ++ ranges)
two_in_order true r ranges h order = (comes_before r ranges (λ k l i j. h k l (or_left (is_in r k) false i) j), order)
two_in_order false r ranges h order = order

alone : (b : Bool) (r : KeyRange) → AreInOrder (if b then r ∷ [] else [])
alone true r = (tt, tt)
alone false r = tt

each_in_order : (start stop : List ℕ) (spans : List KeySpan) → AreSpansInOrder spans → AreInOrder (both_of_each start stop spans)
each_in_order start stop [] order = tt
each_in_order start stop (s ∷ spans) order =
    two_in_order (is_within (narrower stop s.stop) (later_start start s.start)) (Span (later_start start s.start) (narrower stop s.stop)) (both_of_each start stop spans)
    (λ k l i j. before_any s spans order.0 k l
    (and_both (is_between start stop k) (is_in_span s k) (sym (in_both start stop s.start s.stop k) ∙ i)).1
    (and_both (is_between start stop l) (is_in_spans spans l) (sym (in_each start stop spans l) ∙ j)).1)
    (each_in_order start stop spans order.1)

-- ---- a span inside a range

-- ranges in their order that have the keys of a span inside a range
pub record AreInside (start stop : List ℕ) (bounds : KeyRange) (ranges : List KeyRange) : Type 0 where
  pub in_order : AreInOrder ranges
  pub keys : (key : List ℕ) → is_in_any ranges key ≡ (is_between start stop key && is_in bounds key)

module _ (start stop : List ℕ) where
  of_point : (point : List ℕ) → AreInside start stop (Point point) (point_between start stop point)
  of_point point = record { in_order = alone (is_between start stop point) (Point point); keys = here }
    where
      here : (key : List ℕ) → is_in_any (point_between start stop point) key ≡ (is_between start stop key && is_in (Point point) key)
      here key = go (is_between start stop point) refl
        where
          same : is_in (Point point) key ≡ true → is_between start stop key ≡ is_between start stop point
          same h = ap (is_between start stop) (same_key key point (ordered_equal (key_cmp key point) h))

          go : (b : Bool) → b ≡ is_between start stop point → is_in_any (if b then Point point ∷ [] else []) key ≡ (is_between start stop key && is_in (Point point) key)
          go true e =
              false_or (is_in (Point point) key)
              ∙ both_ways (is_in (Point point) key) (is_between start stop key && is_in (Point point) key)
              (λ h. both_and (is_between start stop key) (is_in (Point point) key) (same h ∙ sym e) h)
              (λ h. (and_both (is_between start stop key) (is_in (Point point) key) h).1)
          go false e = both_ways false (is_between start stop key && is_in (Point point) key) (λ h. cc)
              (λ h. let b = and_both (is_between start stop key) (is_in (Point point) key) h in e ∙ sym (same b.1) ∙ b.0)

  pub inside_point : (bounds : KeyRange) (point : List ℕ) (none ranges : List KeyRange) → bounds ≡ Point point → none ≡ [] → ranges ≡ none ++ point_between start stop point → AreInside start stop bounds ranges
  inside_point bounds point none ranges are first is =
      subst (λ (r : KeyRange). AreInside start stop r ranges) (sym are)
      (subst (AreInside start stop (Point point)) (sym (is ∙ ap (λ (l : List KeyRange). l ++ point_between start stop point) first)) (of_point point))

  pub inside_span : (bounds : KeyRange) (first last : List ℕ) (none ranges : List KeyRange) → bounds ≡ Span first last → none ≡ [] → ranges ≡ none ++ both_spans start stop first last → AreInside start stop bounds ranges
  inside_span bounds first last none ranges are empty is =
      subst (λ (r : KeyRange). AreInside start stop r ranges) (sym are)
      (subst (AreInside start stop (Span first last)) (sym (is ∙ ap (λ (l : List KeyRange). l ++ both_spans start stop first last) empty))
      (record { in_order = alone (is_within (narrower stop last) (later_start start first)) (Span (later_start start first) (narrower stop last)); keys = λ key. in_both start stop first last key }))

  pub inside_each : (bounds : KeyRange) (spans : List KeySpan) (several : Spans) (none ranges : List KeyRange) → bounds ≡ Several several → spans ≡ several.spans → AreOrderedSpans several → none ≡ [] → ranges ≡ none ++ both_of_each start stop spans
      → AreInside start stop bounds ranges
  inside_each bounds spans several none ranges are same ordered empty is =
      subst (λ (r : KeyRange). AreInside start stop r ranges) (sym are)
      (subst (AreInside start stop (Several several)) (sym (is ∙ ap (λ (l : List KeyRange). l ++ both_of_each start stop spans) empty ∙ ap (both_of_each start stop) same))
      (record { in_order = each_in_order start stop several.spans ordered.in_order; keys = λ key. in_each start stop several.spans key }))

-- ---- one key

-- a key that is in a range is kept, and another is not
module _ (range : KeyRange) (lent : Option (Bor KeyRange)) (b : Bor KeyRange) (point : List ℕ) (is_point : range ≡ Point point) (is_lent : lent ≡ Some b) where
  there : (ranges : List KeyRange) (key : List ℕ) → is_in_any ranges key ≡ (is_in (Point point) key && is_in b.now key) → is_in_any ranges key ≡ (is_in range key && is_in_range lent key)
  there ranges key h = h ∙ ap (λ (r : KeyRange). is_in r key && is_in b.now key) (sym is_point) ∙ ap (λ (o : Option (Bor KeyRange)). is_in range key && is_in_range o key) (sym is_lent)

  pub point_kept : (key : List ℕ) → is_in b.now point ≡ true → is_in_any (Point point ∷ []) key ≡ (is_in range key && is_in_range lent key)
  point_kept key inside =
      there (Point point ∷ []) key (false_or (is_in (Point point) key)
      ∙ both_ways (is_in (Point point) key) (is_in (Point point) key && is_in b.now key)
      (λ h. both_and (is_in (Point point) key) (is_in b.now key) h (subst (λ (k : List ℕ). is_in b.now k ≡ true) (sym (same_key key point (ordered_equal (key_cmp key point) h))) inside))
      (λ h. (and_both (is_in (Point point) key) (is_in b.now key) h).0))

  pub point_dropped : (key : List ℕ) → is_in b.now point ≡ false → is_in_any [] key ≡ (is_in range key && is_in_range lent key)
  point_dropped key outside =
      there [] key (both_ways false (is_in (Point point) key && is_in b.now key) (λ h. cc)
      (λ h. let both = and_both (is_in (Point point) key) (is_in b.now key) h in sym outside ∙ subst (λ (k : List ℕ). is_in b.now k ≡ true) (same_key key point (ordered_equal (key_cmp key point) both.0)) both.1))
