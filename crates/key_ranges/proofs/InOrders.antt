-- Spans that are merged are in order, and have all keys that they had.
use Rattle.std.proofs.Common.{◌≡◌, ◌<◌, ◌≤◌, ◌+◌, ℕ, zero, suc, Bool, true, false, not, ◌&&◌, ◌||◌, if◌then◌else◌, nat_eq, List, [], ◌∷◌, get_or, length, refl, sym, ap, subst, ◌∙◌, arith}
use Rattle.std.specs.List.{insert, prefix_len, AllByRecursion}
use Rattle.std.proofs.lemmas.Bool.Decides.{nat_tests}
use Rattle.std.specs.declared.cmp.Ordering.{Ordering}
use Rattle.std.specs.declared.cmp.Ordering.TheVariants.{Less, Equal, Greater}
use Rattle.std.specs.Ordering.{nat_cmp, is_lt, is_eq, ordering_then}
use Rattle.std.specs.Cmp.{nat_cmp_is, ranked}
use Rattle.store.specs.Records.{key_cmp, is_from, is_not_less, has_prefix}
use Rattle.store.specs.Walks.{is_within}
use Rattle.store.proofs.Changes.{key_trans, same_key, itself, reversed, after}
use Rattle.store.proofs.Walking.{stays_past}
use Rattle.key_ranges.specs.declared.range.KeyRange.{KeyRange}
use Rattle.key_ranges.specs.declared.range.KeyRange.TheVariants.{Point, Span, Several}
use Rattle.key_ranges.specs.declared.spans.KeySpan.{KeySpan}
use Rattle.key_ranges.specs.Ranges.{is_in}
use Rattle.key_ranges.specs.Spans.{Spans, is_in_span, is_in_spans, AreSpansInOrder, SpanBefore}
use Rattle.key_ranges.specs.TableRanges.{around_all, span_of}
use Rattle.key_ranges.specs.InOrder.{wider, hull, merged, merged_after, put_by_start, by_start, first_start, least_start, widest_stop, StartFrom, StartsNeverFall, MergedLosesNothing, OrderedLosesNothing}

-- ---- numbers

less_is : (a b : ℕ) → nat_cmp a b ≡ Less → a < b
less_is a b h = ranked a b Less (sym h)

is_less : (a b : ℕ) → a < b → nat_cmp a b ≡ Less
is_less a b h = sym (nat_cmp_is a b Less h)

-- ---- stops, byte by byte

-- within a stop by the order of the first bytes of key and stop
abbrev by_first : Ordering → Bool → Bool
by_first Less rest = true
by_first Equal rest = rest
by_first Greater rest = false

abbrev is_under : List ℕ → List ℕ → Bool
is_under [] k = true
is_under (x ∷ b) [] = true
is_under (x ∷ b) (z ∷ k) = by_first (nat_cmp z x) (is_under b k)

under_is : (b k : List ℕ) → is_within b k ≡ is_under b k
under_is [] k = refl
under_is (x ∷ b) [] = refl
under_is (x ∷ b) (z ∷ k) = go (nat_cmp z x) refl (under_is b k)
  where
    go : (o : Ordering) → o ≡ nat_cmp z x → is_within b k ≡ is_under b k → ((nat_eq x z && has_prefix b k) || is_lt (ordering_then o (key_cmp k b))) ≡ by_first o (is_under b k)
    go Less e later = either (nat_eq x z && has_prefix b k)
      where
        either : (t : Bool) → (t || true) ≡ true
        either true = refl
        either false = refl
    go Equal e later =
        let same : z ≡ x = ranked z x Equal e in
        let t : nat_eq x z ≡ true = grind (arith, nat_tests) in
        rw t later
    go Greater e later =
        let more : x < z = ranked z x Greater e in
        let t : nat_eq x z ≡ false = grind (arith, nat_tests) in
        rw t refl

-- by the order of the first bytes in which two stops differ
abbrev wider_by : Ordering → List ℕ → List ℕ → List ℕ → List ℕ
wider_by Less same left right = right
wider_by Equal same left right = same
wider_by Greater same left right = left

abbrev wider_bytes : List ℕ → List ℕ → List ℕ
wider_bytes [] d = []
wider_bytes (x ∷ b) [] = []
wider_bytes (x ∷ b) (y ∷ d) = wider_by (nat_cmp x y) (x ∷ wider_bytes b d) (x ∷ b) (y ∷ d)

wider_is : (b d : List ℕ) → wider b d ≡ wider_bytes b d
wider_is [] d = refl
wider_is (x ∷ b) [] = refl
wider_is (x ∷ b) (y ∷ d) = go (nat_cmp x y) refl (wider_is b d)
  where
    chosen : Bool → Bool → Bool → List ℕ
    chosen p q l = if p then (x ∷ b) else (if q || l then (y ∷ d) else (x ∷ b))

    go : (o : Ordering) → o ≡ nat_cmp x y → wider b d ≡ wider_bytes b d
        → chosen (nat_eq x y && has_prefix b d) (nat_eq y x && has_prefix d b) (is_lt (ordering_then o (key_cmp b d))) ≡ wider_by o (x ∷ wider_bytes b d) (x ∷ b) (y ∷ d)
    go Less e later =
        let less = less_is x y (sym e) in
        let s : nat_eq x y ≡ false = grind (arith, nat_tests) in
        let t : nat_eq y x ≡ false = grind (arith, nat_tests) in
        rw (s, t) refl
    go Equal e later =
        let same : x ≡ y = ranked x y Equal e in
        let s : nat_eq x y ≡ true = grind (arith, nat_tests) in
        let t : nat_eq y x ≡ true = grind (arith, nat_tests) in
        ap (λ p. chosen (p && has_prefix b d) (nat_eq y x && has_prefix d b) (is_lt (key_cmp b d))) s
        ∙ ap (λ q. chosen (has_prefix b d) (q && has_prefix d b) (is_lt (key_cmp b d))) t
        ∙ by_parts same (has_prefix b d) (has_prefix d b || is_lt (key_cmp b d))
        ∙ ap (λ l. x ∷ l) later
      where
        by_parts : x ≡ y → (p q : Bool) → (if p then (x ∷ b) else (if q then (y ∷ d) else (x ∷ b))) ≡ x ∷ (if p then b else (if q then d else b))
        by_parts same true q = refl
        by_parts same false true = ap (λ z. z ∷ d) (sym same)
        by_parts same false false = refl
    go Greater e later =
        let more : y < x = ranked x y Greater e in
        let s : nat_eq x y ≡ false = grind (arith, nat_tests) in
        let t : nat_eq y x ≡ false = grind (arith, nat_tests) in
        rw (s, t) refl

first_wider : (b d k : List ℕ) → is_under b k ≡ true → is_under (wider_bytes b d) k ≡ true
first_wider [] d k h = refl
first_wider (x ∷ b) [] k h = refl
first_wider (x ∷ b) (y ∷ d) [] h = go (nat_cmp x y)
  where
    go : (o : Ordering) → is_under (wider_by o (x ∷ wider_bytes b d) (x ∷ b) (y ∷ d)) [] ≡ true
    go Less = refl
    go Equal = refl
    go Greater = refl
first_wider (x ∷ b) (y ∷ d) (z ∷ k) h = go (nat_cmp x y) refl (nat_cmp z x) refl h (first_wider b d k)
  where
    go : (o : Ordering) → o ≡ nat_cmp x y → (p : Ordering) → p ≡ nat_cmp z x → by_first p (is_under b k) ≡ true → (is_under b k ≡ true → is_under (wider_bytes b d) k ≡ true)
        → is_under (wider_by o (x ∷ wider_bytes b d) (x ∷ b) (y ∷ d)) (z ∷ k) ≡ true
    go Less e Less f g later =
        let one = less_is x y (sym e) in
        let two = less_is z x (sym f) in
        let t : nat_cmp z y ≡ Less = is_less z y (omega arith) in
        rw t refl
    go Less e Equal f g later =
        let one = less_is x y (sym e) in
        let two : z ≡ x = ranked z x Equal f in
        let t : nat_cmp z y ≡ Less = is_less z y (omega arith) in
        rw t refl
    go Equal e Less f g later = ap (λ q. by_first q (is_under (wider_bytes b d) k)) (sym f)
    go Equal e Equal f g later = ap (λ q. by_first q (is_under (wider_bytes b d) k)) (sym f) ∙ later g
    go Greater e Less f g later = ap (λ q. by_first q (is_under b k)) (sym f)
    go Greater e Equal f g later = ap (λ q. by_first q (is_under b k)) (sym f) ∙ g
    go o e Greater f g later = cc

second_wider : (b d k : List ℕ) → is_under d k ≡ true → is_under (wider_bytes b d) k ≡ true
second_wider [] d k h = refl
second_wider (x ∷ b) [] k h = refl
second_wider (x ∷ b) (y ∷ d) [] h = go (nat_cmp x y)
  where
    go : (o : Ordering) → is_under (wider_by o (x ∷ wider_bytes b d) (x ∷ b) (y ∷ d)) [] ≡ true
    go Less = refl
    go Equal = refl
    go Greater = refl
second_wider (x ∷ b) (y ∷ d) (z ∷ k) h = go (nat_cmp x y) refl (nat_cmp z y) refl h (second_wider b d k)
  where
    go : (o : Ordering) → o ≡ nat_cmp x y → (p : Ordering) → p ≡ nat_cmp z y → by_first p (is_under d k) ≡ true → (is_under d k ≡ true → is_under (wider_bytes b d) k ≡ true)
        → is_under (wider_by o (x ∷ wider_bytes b d) (x ∷ b) (y ∷ d)) (z ∷ k) ≡ true
    go Less e p f g later = ap (λ q. by_first q (is_under d k)) (sym f) ∙ g
    go Greater e Less f g later =
        let one : y < x = ranked x y Greater e in
        let two = less_is z y (sym f) in
        let t : nat_cmp z x ≡ Less = is_less z x (omega arith) in
        rw t refl
    go Greater e Equal f g later =
        let one : y < x = ranked x y Greater e in
        let two : z ≡ y = ranked z y Equal f in
        let t : nat_cmp z x ≡ Less = is_less z x (omega arith) in
        rw t refl
    go Equal e Less f g later =
        let same : x ≡ y = ranked x y Equal e in
        let t : nat_cmp z x ≡ Less = ap (nat_cmp z) same ∙ sym f in
        rw t refl
    go Equal e Equal f g later =
        let same : x ≡ y = ranked x y Equal e in
        let t : nat_cmp z x ≡ Equal = ap (nat_cmp z) same ∙ sym f in
        rw t (later g)
    go o e Greater f g later = cc

within_first : (b d k : List ℕ) → is_within b k ≡ true → is_within (wider b d) k ≡ true
within_first b d k h = ap (λ s. is_within s k) (wider_is b d) ∙ under_is (wider_bytes b d) k ∙ first_wider b d k (sym (under_is b k) ∙ h)

within_second : (b d k : List ℕ) → is_within d k ≡ true → is_within (wider b d) k ≡ true
within_second b d k h = ap (λ s. is_within s k) (wider_is b d) ∙ under_is (wider_bytes b d) k ∙ second_wider b d k (sym (under_is d k) ∙ h)

-- ---- keys and ranges

from_itself : (k : List ℕ) → is_from k k ≡ true
from_itself k = ap is_not_less (itself k)

pub from_trans : (a b k : List ℕ) → is_from a b ≡ true → is_from b k ≡ true → is_from a k ≡ true
from_trans a b k h j = go (key_cmp b a) refl h (key_cmp k b) refl j
  where
    go : (o : Ordering) → o ≡ key_cmp b a → is_not_less o ≡ true → (p : Ordering) → p ≡ key_cmp k b → is_not_less p ≡ true → is_from a k ≡ true
    go Less e f p g i = cc
    go o e f Less g i = cc
    go Equal e f p g i = subst (λ x. is_from x k ≡ true) (same_key b a (sym e)) (ap is_not_less (sym g) ∙ i)
    go Greater e f Equal g i = subst (λ x. is_from a x ≡ true) (sym (same_key k b (sym g))) (ap is_not_less (sym e) ∙ f)
    go Greater e f Greater g i = ap is_not_less (after a k (key_trans a b k (reversed b a (sym e)) (reversed k b (sym g))))

-- what is within a stop comes before what is not
within_before : (stop k e : List ℕ) → is_within stop k ≡ true → is_within stop e ≡ false → key_cmp k e ≡ Less
within_before stop k e h out = go (key_cmp k e) refl
  where
    go : (o : Ordering) → o ≡ key_cmp k e → key_cmp k e ≡ Less
    go Less f = sym f
    go Equal f = let same = same_key k e (sym f) in let wrong : is_within stop e ≡ true = subst (λ x. is_within stop x ≡ true) same h in cc
    go Greater f = let wrong : is_within stop k ≡ false = stays_past stop e k out (reversed k e (sym f)) in cc

less_then_from : (k e l : List ℕ) → key_cmp k e ≡ Less → is_from e l ≡ true → key_cmp k l ≡ Less
less_then_from k e l h j = go (key_cmp l e) refl j
  where
    go : (o : Ordering) → o ≡ key_cmp l e → is_not_less o ≡ true → key_cmp k l ≡ Less
    go Less f i = cc
    go Equal f i = subst (λ x. key_cmp k x ≡ Less) (sym (same_key l e (sym f))) h
    go Greater f i = key_trans k e l h (reversed l e (sym f))

pub and_both : (a b : Bool) → (a && b) ≡ true → (a ≡ true) × (b ≡ true)
and_both true b h = (refl, h)
and_both false b h = cc

pub both_and : (a b : Bool) → a ≡ true → b ≡ true → (a && b) ≡ true
both_and a b h k = rw (h, k) refl

eq_only : (o : Ordering) → is_eq o ≡ true → o ≡ Equal
eq_only Less h = cc
eq_only Equal h = refl
eq_only Greater h = cc

within_itself : (k : List ℕ) → is_within k k ≡ true
within_itself k = under_is k k ∙ go k
  where
    go : (k : List ℕ) → is_under k k ≡ true
    go [] = refl
    go (x ∷ k) = let t : nat_cmp x x ≡ Equal = sym (nat_cmp_is x x Equal refl) in rw t (go k)

-- a key of a span is from its start on, and within its stop
bounded : (s : KeySpan) (key : List ℕ) → is_in_span s key ≡ true → (is_from s.start key ≡ true) × (is_within s.stop key ≡ true)
bounded s key h = and_both (is_from s.start key) (is_within s.stop key) h

-- what is in a range is in its span
pub in_span_of : (r : KeyRange) (key : List ℕ) → ((s : Spans) → r ≡ Several s → ⊥) → is_in r key ≡ true → is_in_span (span_of r) key ≡ true
in_span_of (Point point) key one h =
    let same = same_key key point (eq_only (key_cmp key point) h) in
    both_and (is_from point key) (is_within point key) (subst (λ x. is_from point x ≡ true) (sym same) (from_itself point)) (subst (λ x. is_within point x ≡ true) (sym same) (within_itself point))
in_span_of (Span start stop) key one h = h
in_span_of (Several s) key one h = absurd (one s refl)

in_hull_first : (r s : KeySpan) (key : List ℕ) → is_in_span r key ≡ true → is_in_span (hull r s) key ≡ true
in_hull_first r s key h = let b = bounded r key h in both_and (is_from r.start key) (is_within (wider r.stop s.stop) key) b.0 (within_first r.stop s.stop key b.1)

in_hull_second : (r s : KeySpan) (key : List ℕ) → is_from r.start s.start ≡ true → is_in_span s key ≡ true → is_in_span (hull r s) key ≡ true
in_hull_second r s key later h =
    let b = bounded s key h in
    both_and (is_from r.start key) (is_within (wider r.stop s.stop) key) (from_trans r.start s.start key later b.0) (within_second r.stop s.stop key b.1)

-- ---- one span around all

not_from : (a b : List ℕ) → is_from a b ≡ false → is_from b a ≡ true
not_from a b h = go (key_cmp b a) refl h
  where
    go : (o : Ordering) → o ≡ key_cmp b a → is_not_less o ≡ false → is_from b a ≡ true
    go Less e f = ap is_not_less (after b a (sym e))
    go Equal e f = cc
    go Greater e f = cc

from_first : (a b k : List ℕ) → is_from a k ≡ true → is_from (first_start a b) k ≡ true
from_first a b k h = go (is_from a b) refl
  where
    go : (t : Bool) → t ≡ is_from a b → is_from (if t then a else b) k ≡ true
    go true e = h
    go false e = from_trans b a k (not_from a b (sym e)) h

from_second : (a b k : List ℕ) → is_from b k ≡ true → is_from (first_start a b) k ≡ true
from_second a b k h = go (is_from a b) refl
  where
    go : (t : Bool) → t ≡ is_from a b → is_from (if t then a else b) k ≡ true
    go true e = from_trans a b k (sym e) h
    go false e = h

from_least : (start key : List ℕ) (spans : List KeySpan) → is_from start key ≡ true → is_from (least_start start spans) key ≡ true
from_least start key [] h = h
from_least start key (s ∷ ss) h = from_least (first_start start s.start) key ss (from_first start s.start key h)

within_widest : (stop key : List ℕ) (spans : List KeySpan) → is_within stop key ≡ true → is_within (widest_stop stop spans) key ≡ true
within_widest stop key [] h = h
within_widest stop key (s ∷ ss) h = within_widest (wider stop s.stop) key ss (within_first stop s.stop key h)

pub or_left : (a b : Bool) → a ≡ true → (a || b) ≡ true
or_left a b h = rw h refl

pub or_right : (a b : Bool) → b ≡ true → (a || b) ≡ true
or_right true b h = refl
or_right false b h = h

pub or_cases : {A : Type 0} (a b : Bool) → (a || b) ≡ true → (a ≡ true → A) → (b ≡ true → A) → A
or_cases true b h first second = first refl
or_cases false b h first second = second h

from_any : (start key : List ℕ) (spans : List KeySpan) → is_in_spans spans key ≡ true → is_from (least_start start spans) key ≡ true
from_any start key [] h = cc
from_any start key (s ∷ ss) h =
    or_cases (is_in_span s key) (is_in_spans ss key) h
    (λ i. from_least (first_start start s.start) key ss (from_second start s.start key (bounded s key i).0))
    (λ i. from_any (first_start start s.start) key ss i)

within_any : (stop key : List ℕ) (spans : List KeySpan) → is_in_spans spans key ≡ true → is_within (widest_stop stop spans) key ≡ true
within_any stop key [] h = cc
within_any stop key (s ∷ ss) h =
    or_cases (is_in_span s key) (is_in_spans ss key) h
    (λ i. within_widest (wider stop s.stop) key ss (within_second stop s.stop key (bounded s key i).1))
    (λ i. within_any (wider stop s.stop) key ss i)

pub inside_all : (spans : List KeySpan) (key : List ℕ) → is_in_spans spans key ≡ true → is_in_span (around_all spans) key ≡ true
inside_all [] key h = cc
inside_all (s ∷ ss) key h =
    let start = or_cases (is_in_span s key) (is_in_spans ss key) h (λ i. from_least s.start key ss (bounded s key i).0) (λ i. from_any s.start key ss i) in
    let stop = or_cases (is_in_span s key) (is_in_spans ss key) h (λ i. within_widest s.stop key ss (bounded s key i).1) (λ i. within_any s.stop key ss i) in
    both_and (is_from (least_start s.start ss) key) (is_within (widest_stop s.stop ss) key) start stop

-- ---- in the order of their starts

abbrev starts_before : KeySpan → KeySpan → Bool
starts_before s t = not (is_from s.start t.start)

put_none : (s : KeySpan) → put_by_start s [] ≡ s ∷ []
put_none s = refl

pub put_behind : (s t : KeySpan) (ts : List KeySpan) → put_by_start s (t ∷ ts) ≡ (if is_from s.start t.start then s ∷ t ∷ ts else t ∷ put_by_start s ts)
put_behind s t ts = go (is_from s.start t.start) refl
  where
    one_more : (n : ℕ) → 1 + n ≡ suc n
    one_more n = omega arith

    go : (b : Bool) → b ≡ is_from s.start t.start → put_by_start s (t ∷ ts) ≡ (if b then s ∷ t ∷ ts else t ∷ put_by_start s ts)
    go true e = ap (λ c. insert (t ∷ ts) (if not c then 1 + prefix_len (starts_before s) ts else 0) s) (sym e)
    go false e =
        ap (λ c. insert (t ∷ ts) (if not c then 1 + prefix_len (starts_before s) ts else 0) s) (sym e)
        ∙ ap (λ n. insert (t ∷ ts) n s) (one_more (prefix_len (starts_before s) ts))

from_put : (start : List ℕ) (s : KeySpan) (ts : List KeySpan) → is_from start s.start ≡ true → StartFrom start ts → StartFrom start (put_by_start s ts)
from_put start s [] h all = (h, tt)
from_put start s (t ∷ ts) h all = subst (StartFrom start) (sym (put_behind s t ts)) (go (is_from s.start t.start) (from_put start s ts h all.1))
  where
    go : (b : Bool) → StartFrom start (put_by_start s ts) → StartFrom start (if b then s ∷ t ∷ ts else t ∷ put_by_start s ts)
    go true later = (h, all)
    go false later = (all.0, later)

from_later : (a b : List ℕ) (ts : List KeySpan) → is_from a b ≡ true → StartFrom b ts → StartFrom a ts
from_later a b [] h all = tt
from_later a b (t ∷ ts) h all = (from_trans a b t.start h all.0, from_later a b ts h all.1)

put_never_falls : (s : KeySpan) (ts : List KeySpan) → StartsNeverFall ts → StartsNeverFall (put_by_start s ts)
put_never_falls s [] falls = (tt, tt)
put_never_falls s (t ∷ ts) falls = subst StartsNeverFall (sym (put_behind s t ts)) (go (is_from s.start t.start) refl (put_never_falls s ts falls.1))
  where
    go : (b : Bool) → b ≡ is_from s.start t.start → StartsNeverFall (put_by_start s ts) → StartsNeverFall (if b then s ∷ t ∷ ts else t ∷ put_by_start s ts)
    go true e later = ((sym e, from_later s.start t.start ts (sym e) falls.0), falls)
    go false e later = (from_put t.start s ts (not_from s.start t.start (sym e)) falls.0, later)

pub never_falls : (spans : List KeySpan) → StartsNeverFall (by_start spans)
never_falls [] = tt
never_falls (s ∷ ss) = put_never_falls s (by_start ss) (never_falls ss)

-- ---- a search among starts that never fall

start_at : (start : List ℕ) (ss : List KeySpan) (j : ℕ) (d : KeySpan) → StartFrom start ss → j < length ss → is_from start (get_or ss j d).start ≡ true
start_at start [] j d all within = absurd (omega arith)
start_at start (s ∷ ss) zero d all within = all.0
start_at start (s ∷ ss) (suc j) d all within = start_at start ss j d all.1 (omega arith)

-- what starts before a key stands before what does not
pub starts_partitioned : (start : List ℕ) (spans : List KeySpan) → StartsNeverFall spans → (i j : ℕ) (d : KeySpan) → i ≤ j → j < length spans
    → not (is_from start (get_or spans j d).start) ≡ true → not (is_from start (get_or spans i d).start) ≡ true
starts_partitioned start [] falls i j d rise within h = absurd (omega arith)
starts_partitioned start (s ∷ ss) falls zero zero d rise within h = h
starts_partitioned start (s ∷ ss) falls zero (suc j) d rise within h = go (is_from start s.start) refl
  where
    go : (b : Bool) → b ≡ is_from start s.start → not b ≡ true
    go false e = refl
    go true e =
        let later : is_from start (get_or ss j d).start ≡ true = from_trans start s.start (get_or ss j d).start (sym e) (start_at s.start ss j d falls.0 (omega arith)) in
        let wrong : false ≡ true = ap not (sym later) ∙ h in
        cc
starts_partitioned start (s ∷ ss) falls (suc i) zero d rise within h = absurd (omega arith)
starts_partitioned start (s ∷ ss) falls (suc i) (suc j) d rise within h = starts_partitioned start ss falls.1 i j d (omega arith) (omega arith) h

put_has : (s : KeySpan) (ts : List KeySpan) (key : List ℕ) → (is_in_span s key || is_in_spans ts key) ≡ true → is_in_spans (put_by_start s ts) key ≡ true
put_has s [] key h = h
put_has s (t ∷ ts) key h = ap (λ l. is_in_spans l key) (put_behind s t ts) ∙ go (is_from s.start t.start) (λ i. put_has s ts key i)
  where
    go : (b : Bool) → ((is_in_span s key || is_in_spans ts key) ≡ true → is_in_spans (put_by_start s ts) key ≡ true) → is_in_spans (if b then s ∷ t ∷ ts else t ∷ put_by_start s ts) key ≡ true
    go true later = h
    go false later = or_cases (is_in_span s key) (is_in_span t key || is_in_spans ts key) h
        (λ i. or_right (is_in_span t key) (is_in_spans (put_by_start s ts) key) (later (or_left (is_in_span s key) (is_in_spans ts key) i)))
        (λ i. or_cases (is_in_span t key) (is_in_spans ts key) i
        (λ j. or_left (is_in_span t key) (is_in_spans (put_by_start s ts) key) j)
        (λ j. or_right (is_in_span t key) (is_in_spans (put_by_start s ts) key) (later (or_right (is_in_span s key) (is_in_spans ts key) j))))

pub ordered_has : (spans : List KeySpan) (key : List ℕ) → is_in_spans spans key ≡ true → is_in_spans (by_start spans) key ≡ true
ordered_has [] key h = h
ordered_has (s ∷ ss) key h =
    put_has s (by_start ss) key
    (or_cases (is_in_span s key) (is_in_spans ss key) h (λ i. or_left (is_in_span s key) (is_in_spans (by_start ss) key) i) (λ i. or_right (is_in_span s key) (is_in_spans (by_start ss) key) (ordered_has ss key i)))

pub ordered_loses_nothing : OrderedLosesNothing
ordered_loses_nothing spans = (never_falls spans, λ key h. ordered_has spans key h)

-- ---- merged

-- the key of the first span, or of one behind it, is in a merged one
keeps : (r : KeySpan) (ss : List KeySpan) → StartFrom r.start ss → StartsNeverFall ss → (key : List ℕ) → (is_in_span r key || is_in_spans ss key) ≡ true → is_in_spans (merged_after r ss) key ≡ true
keeps r [] from rest key h = h
keeps r (s ∷ ss) from rest key h =
    go (is_within r.stop s.start)
    (λ i. keeps (hull r s) ss from.1 rest.1 key i)
    (λ i. keeps s ss rest.0 rest.1 key i)
  where
    go : (b : Bool) → ((is_in_span (hull r s) key || is_in_spans ss key) ≡ true → is_in_spans (merged_after (hull r s) ss) key ≡ true) → ((is_in_span s key || is_in_spans ss key) ≡ true → is_in_spans (merged_after s ss) key ≡ true)
        → is_in_spans (if b then merged_after (hull r s) ss else r ∷ merged_after s ss) key ≡ true
    go true one apart = one (or_cases (is_in_span r key) (is_in_span s key || is_in_spans ss key) h
        (λ i. or_left (is_in_span (hull r s) key) (is_in_spans ss key) (in_hull_first r s key i))
        (λ i. or_cases (is_in_span s key) (is_in_spans ss key) i
        (λ j. or_left (is_in_span (hull r s) key) (is_in_spans ss key) (in_hull_second r s key from.0 j))
        (λ j. or_right (is_in_span (hull r s) key) (is_in_spans ss key) j)))
    go false one apart = or_cases (is_in_span r key) (is_in_span s key || is_in_spans ss key) h
        (λ i. or_left (is_in_span r key) (is_in_spans (merged_after s ss) key) i)
        (λ i. or_right (is_in_span r key) (is_in_spans (merged_after s ss) key) (apart i))

-- all keys of these spans are from this one on
abbrev AreFrom : List ℕ → List KeySpan → Type 0
AreFrom start spans = AllByRecursion (λ r. (key : List ℕ) → is_in_span r key ≡ true → is_from start key ≡ true) spans

all_from : (start : List ℕ) (r : KeySpan) (ss : List KeySpan) → is_from start r.start ≡ true → StartFrom start ss → StartFrom r.start ss → StartsNeverFall ss → AreFrom start (merged_after r ss)
all_from start r [] h from own rest = ((λ key i. from_trans start r.start key h (bounded r key i).0), tt)
all_from start r (s ∷ ss) h from own rest =
    go (is_within r.stop s.start) (all_from start (hull r s) ss h from.1 own.1 rest.1) (all_from start s ss from.0 from.1 rest.0 rest.1)
  where
    go : (b : Bool) → AreFrom start (merged_after (hull r s) ss) → AreFrom start (merged_after s ss) → AreFrom start (if b then merged_after (hull r s) ss else r ∷ merged_after s ss)
    go true one apart = one
    go false one apart = ((λ key i. from_trans start r.start key h (bounded r key i).0), apart)

all_behind : (r : KeySpan) (start : List ℕ) (spans : List KeySpan) → is_within r.stop start ≡ false → AreFrom start spans → AllByRecursion (SpanBefore r) spans
all_behind r start [] out from = tt
all_behind r start (s ∷ ss) out from =
    ((λ k l i j. less_then_from k start l (within_before r.stop k start (bounded r k i).1 out) (from.0 l j)), all_behind r start ss out from.1)

in_order : (r : KeySpan) (ss : List KeySpan) → StartFrom r.start ss → StartsNeverFall ss → AreSpansInOrder (merged_after r ss)
in_order r [] from rest = (tt, tt)
in_order r (s ∷ ss) from rest =
    go (is_within r.stop s.start) refl (in_order (hull r s) ss from.1 rest.1) (in_order s ss rest.0 rest.1)
    (all_from s.start s ss (from_itself s.start) rest.0 rest.0 rest.1)
  where
    go : (b : Bool) → b ≡ is_within r.stop s.start → AreSpansInOrder (merged_after (hull r s) ss) → AreSpansInOrder (merged_after s ss) → AreFrom s.start (merged_after s ss)
        → AreSpansInOrder (if b then merged_after (hull r s) ss else r ∷ merged_after s ss)
    go true e one apart from_s = one
    go false e one apart from_s = (all_behind r s.start (merged_after s ss) (sym e) from_s, apart)

pub merged_loses_nothing : MergedLosesNothing
merged_loses_nothing [] falls = (tt, λ key h. h)
merged_loses_nothing (r ∷ rs) falls = (in_order r rs falls.0 falls.1, λ key h. keeps r rs falls.0 falls.1 key h)

pub joined_in_order : (spans : List KeySpan) → AreSpansInOrder (merged (by_start spans))
joined_in_order spans = (merged_loses_nothing (by_start spans) (never_falls spans)).0
