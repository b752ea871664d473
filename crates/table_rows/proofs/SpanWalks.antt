-- Spans of keys, one after the other.
use Rattle.std.proofs.Common.{◌≡◌, ◌<◌, ◌+◌, ℕ, zero, suc, Bool, true, false, ◌||◌, if◌then◌else◌, List, [], ◌∷◌, ◌++◌, drop, length, get_or, refl, sym, ap, ◌∙◌, subst}
use Rattle.std.specs.List.{AllByRecursion}
use Rattle.std.specs.declared.cmp.Ordering.{Ordering}
use Rattle.std.specs.declared.cmp.Ordering.TheVariants.{Less, Equal, Greater}
use Rattle.std.specs.Ordering.{nat_cmp, ordering_then}
use Rattle.store.specs.Records.{Record, Records, IsBefore, IsOrdered, entries_where, is_from, is_not_less, key_cmp}
use Rattle.store.specs.Walks.{span}
use Rattle.store.proofs.Changes.{after, itself}
use Rattle.key_ranges.specs.declared.range.KeyRange.TheVariants.{Span}
use Rattle.key_ranges.specs.declared.spans.KeySpan.{KeySpan}
use Rattle.key_ranges.specs.Spans.{begun_at, is_in_span, is_in_spans, later_start, AreSpansInOrder, SpanBefore}
use Rattle.key_ranges.proofs.Records.{found_range}
use Rattle.table_rows.proofs.Loops.{here}

pub passes_test : (q : List ℕ → Bool) (es : Records) → AllByRecursion (λ (e : Record). q e.0 ≡ true) (entries_where q es)
passes_test q [] = tt
passes_test q (e ∷ es) = go (q e.0) refl (passes_test q es)
  where
    go : (b : Bool) → q e.0 ≡ b → AllByRecursion (λ (x : Record). q x.0 ≡ true) (entries_where q es) → AllByRecursion (λ (x : Record). q x.0 ≡ true) (if b then e ∷ entries_where q es else entries_where q es)
    go true is rest = (is, rest)
    go false is rest = rest

-- a longer key is no sooner
longer : (k start more : List ℕ) → is_not_less (key_cmp k start) ≡ true → is_not_less (key_cmp (k ++ more) start) ≡ true
longer [] [] [] h = refl
longer [] [] (x ∷ more) h = refl
longer [] (x ∷ start) more h = cc
longer (x ∷ k) [] more h = refl
longer (x ∷ k) (y ∷ start) more h = go (nat_cmp x y) h (λ i. longer k start more i)
  where
    go : (o : Ordering) → is_not_less (ordering_then o (key_cmp k start)) ≡ true → (is_not_less (key_cmp k start) ≡ true → is_not_less (key_cmp (k ++ more) start) ≡ true) → is_not_less (ordering_then o (key_cmp (k ++ more) start)) ≡ true
    go Less i later = cc
    go Equal i later = later i
    go Greater i later = refl

pub from_longer : (start k : List ℕ) → is_from start k ≡ true → is_from start (k ++ 0 ∷ []) ≡ true
from_longer start k h = longer k start (0 ∷ []) h

-- ---- the records of a span, and behind them those of others

none_before : (a : List ℕ → Bool) (key : List ℕ) (es : Records) → IsBefore key es → ((k : List ℕ) → a k ≡ true → key_cmp k key ≡ Less) → entries_where a es ≡ []
none_before a key [] before below = refl
none_before a key (e ∷ es) before below = go (a e.0) refl (none_before a key es before.1 below)
  where
    go : (b : Bool) → b ≡ a e.0 → entries_where a es ≡ [] → (if b then e ∷ entries_where a es else entries_where a es) ≡ []
    go true i rest =
        let less : key_cmp e.0 key ≡ Less = below e.0 (sym i) in
        let greater : key_cmp e.0 key ≡ Greater = after key e.0 before.0 in
        cc
    go false i rest = rest

split_entries : (a b : List ℕ → Bool) → ((k l : List ℕ) → a k ≡ true → b l ≡ true → key_cmp k l ≡ Less) → (es : Records) → IsOrdered es → entries_where (λ k. a k || b k) es ≡ entries_where a es ++ entries_where b es
split_entries a b apart [] o = refl
split_entries a b apart (e ∷ es) o = go (a e.0) refl (b e.0) refl (split_entries a b apart es o.1)
  where
    firsts : Records
    firsts = entries_where a es

    others : Records
    others = entries_where b es

    both : Records
    both = entries_where (λ k. a k || b k) es

    go : (p : Bool) → p ≡ a e.0 → (q : Bool) → q ≡ b e.0 → both ≡ firsts ++ others → (if p || q then e ∷ both else both) ≡ (if p then e ∷ firsts else firsts) ++ (if q then e ∷ others else others)
    go true i true j rest =
        let less : key_cmp e.0 e.0 ≡ Less = apart e.0 e.0 (sym i) (sym j) in
        let equal : key_cmp e.0 e.0 ≡ Equal = itself e.0 in
        cc
    go true i false j rest = ap (λ (l : Records). e ∷ l) rest
    go false i true j rest =
        let none : firsts ≡ [] = none_before a e.0 es o.0 (λ k h. apart k e.0 h (sym j)) in
        ap (λ (l : Records). e ∷ l) (rest ∙ ap (λ (l : Records). l ++ others) none) ∙ sym (ap (λ (l : Records). l ++ e ∷ others) none)
    go false i false j rest = rest

before_any : (s : KeySpan) (spans : List KeySpan) → AllByRecursion (SpanBefore s) spans → (k l : List ℕ) → is_in_span s k ≡ true → is_in_spans spans l ≡ true → key_cmp k l ≡ Less
before_any s [] all k l i j = cc
before_any s (t ∷ spans) all k l i j = go (is_in_span t l) refl j (λ h. before_any s spans all.1 k l i h)
  where
    go : (b : Bool) → b ≡ is_in_span t l → (b || is_in_spans spans l) ≡ true → (is_in_spans spans l ≡ true → key_cmp k l ≡ Less) → key_cmp k l ≡ Less
    go true e h later = all.0 k l i (sym e)
    go false e h later = later h

pub first_span : (s : KeySpan) (spans : List KeySpan) (es : Records) → IsOrdered es → AllByRecursion (SpanBefore s) spans → entries_where (is_in_spans (s ∷ spans)) es ≡ span s.start s.stop es ++ entries_where (is_in_spans spans) es
first_span s spans es o all =
    split_entries (is_in_span s) (is_in_spans spans) (λ k l i j. before_any s spans all k l i j) es o
    ∙ ap (λ (l : Records). l ++ entries_where (is_in_spans spans) es) (sym (found_range (Span s.start s.stop) es o))

pub same_span : (a b start stop : List ℕ) (es fs : Records) → a ≡ start → b ≡ stop → es ≡ fs → span a b es ≡ span start stop fs
same_span a b start stop es fs p q r = ap (λ (k : List ℕ). span k b es) p ∙ ap (λ (k : List ℕ). span start k es) q ∙ ap (λ (l : Records). span start stop l) r

-- ---- spans by their index

order_behind : (spans : List KeySpan) (i : ℕ) → AreSpansInOrder spans → AreSpansInOrder (drop i spans)
order_behind spans zero order = order
order_behind [] (suc i) order = tt
order_behind (s ∷ spans) (suc i) order = order_behind spans i order.1

-- the records of the next span, and those behind
pub next_span : (spans : List KeySpan) (i : ℕ) (s : KeySpan) (es : Records) → IsOrdered es → AreSpansInOrder spans → s ≡ get_or spans i s → i < length spans
    → entries_where (is_in_spans (drop i spans)) es ≡ span s.start s.stop es ++ entries_where (is_in_spans (drop (i + 1) spans)) es
next_span spans i s es o order is lt =
    let now = here spans i s is lt in
    ap (λ (l : List KeySpan). entries_where (is_in_spans l) es) now
    ∙ first_span s (drop (i + 1) spans) es o (subst AreSpansInOrder now (order_behind spans i order)).0

pub none_in_spans : (es : Records) → entries_where (is_in_spans []) es ≡ []
none_in_spans [] = refl
none_in_spans (e ∷ es) = none_in_spans es

-- what is left where the next span begins at a key of it
pub begun_entries : (spans : List KeySpan) (i : ℕ) (s : KeySpan) (from : List ℕ) (es : Records) → IsOrdered es → s ≡ get_or spans i s → i < length spans → is_from s.start from ≡ true → AreSpansInOrder (begun_at from (drop i spans))
    → entries_where (is_in_spans (begun_at from (drop i spans))) es ≡ span from s.stop es ++ entries_where (is_in_spans (drop (i + 1) spans)) es
begun_entries spans i s from es o is lt later order =
    let now = here spans i s is lt in
    let start : later_start s.start from ≡ from = ap (λ b. if b then from else s.start) later in
    ap (λ (l : List KeySpan). entries_where (is_in_spans (begun_at from l)) es) now
    ∙ first_span (record { start = later_start s.start from; stop = s.stop }) (drop (i + 1) spans) es o (subst (λ (l : List KeySpan). AreSpansInOrder (begun_at from l)) now order).0
    ∙ ap (λ (k : List ℕ). span k s.stop es ++ entries_where (is_in_spans (drop (i + 1) spans)) es) start
