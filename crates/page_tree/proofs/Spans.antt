-- Counts of the entries of a span of keys.
use Rattle.std.proofs.Common.{◌≡◌, min, ◌⊎◌, ⊎_elim, inl, inr, zero, suc, ℕ, ◌<◌, ◌≤◌, ◌+◌, ◌-◌, ◌^◌, Bool, true, false, nat_eq, ◌&&◌, ◌||◌, List, [], ◌∷◌, ◌++◌, length, refl, sym, ap, ◌∙◌, subst, arith, append_assoc}
use Rattle.std.proofs.lemmas.Bool.{cases_Bool, false≢true}
use Rattle.std.proofs.lemmas.Bool.Decides.{nat_tests}
use Rattle.std.proofs.lemmas.Cmp.{ranked}
use Rattle.std.specs.declared.cmp.Ordering.{Ordering}
use Rattle.std.specs.declared.cmp.Ordering.TheVariants.{Less, Equal, Greater}
use Rattle.std.specs.Ordering.{is_lt, nat_cmp, ordering_then, MatchOrdering}
use Rattle.std.specs.Cmp.Lexicographic.{slice_cmp}
use Rattle.std.specs.List.{starts_with}
use Rattle.page_nodes.specs.declared.cell.NodeKind.TheVariants.{Leaf}
use Rattle.page_nodes.specs.Map.{is_below, Entry, AllAbove, IsRising, rest_entries}
use Rattle.page_nodes.specs.Node.{IsCellAt}
use Rattle.page_nodes.specs.Search.{AreCellsAt}
use Rattle.page_nodes.proofs.Order.{lt_lt}
use Rattle.page_nodes.proofs.Scan.{head_of}
use Rattle.page_tree.specs.Kept.{AreLeft, IsLastAt}
use Rattle.page_tree.specs.Ahead.{AreInLeaf, HasAhead, IsFoundBy, IsStepped}
use Rattle.page_tree.specs.Counts.{is_within, count_within, IsPassed}
use Rattle.page_tree.specs.declared.cursor.TreeCursor.{TreeCursor}
use Rattle.page_tree.specs.declared.tree_walk.TreeWalk.{TreeWalk}
use Rattle.page_tree.proofs.Stepping.{rest_behind}

-- ---- keys within a stop

-- a key before one that begins with the stop does so, too, or comes before the stop
begins : (stop key other : List ℕ) → is_lt (slice_cmp nat_cmp key other) ≡ true → starts_with nat_eq other stop ≡ true → (starts_with nat_eq key stop || is_lt (slice_cmp nat_cmp key stop)) ≡ true
begins [] key other below starts = refl
begins (s ∷ ss) key [] below starts = cc
begins (s ∷ ss) [] (x ∷ xs) below starts = refl
begins (s ∷ ss) (y ∷ ys) (x ∷ xs) below starts =
    go (nat_eq s x) refl starts (nat_cmp y x) (ranked y x _ refl) below (nat_eq s y) refl (nat_cmp y s) (ranked y s _ refl) (begins ss ys xs)
  where
    go : (t : Bool) → t ≡ nat_eq s x → (t && starts_with nat_eq xs ss) ≡ true
        → (o : Ordering) → MatchOrdering o (y < x) (y ≡ x) (x < y) → is_lt (ordering_then o (slice_cmp nat_cmp ys xs)) ≡ true
        → (u : Bool) → u ≡ nat_eq s y
        → (r : Ordering) → MatchOrdering r (y < s) (y ≡ s) (s < y)
        → (is_lt (slice_cmp nat_cmp ys xs) ≡ true → starts_with nat_eq xs ss ≡ true → (starts_with nat_eq ys ss || is_lt (slice_cmp nat_cmp ys ss)) ≡ true)
        → ((u && starts_with nat_eq ys ss) || is_lt (ordering_then r (slice_cmp nat_cmp ys ss))) ≡ true
    go false ti ta o oi ob u ui r ri later = cc
    go true ti ta Greater oi ob u ui r ri later = cc
    go true ti ta Less oi ob true ui r ri later = absurd (grind (arith, nat_tests))
    go true ti ta Less oi ob false ui Less ri later = refl
    go true ti ta Less oi ob false ui Equal ri later = absurd (grind (arith, nat_tests))
    go true ti ta Less oi ob false ui Greater ri later = absurd (grind (arith, nat_tests))
    go true ti ta Equal oi ob false ui r ri later = absurd (grind (arith, nat_tests))
    go true ti ta Equal oi ob true ui Equal ri later = later ob ta
    go true ti ta Equal oi ob true ui Less ri later = absurd (grind (arith, nat_tests))
    go true ti ta Equal oi ob true ui Greater ri later = absurd (grind (arith, nat_tests))

either : (a b : Bool) → b ≡ true → (a || b) ≡ true
either true b is = refl
either false b is = is

-- a key before one that is within a stop is, too
before_within : (stop key other : List ℕ) → is_below key other ≡ true → is_within stop other ≡ true → is_within stop key ≡ true
unfolding is_below
before_within stop key other below within = go (starts_with nat_eq other stop) refl within
  where
    go : (b : Bool) → starts_with nat_eq other stop ≡ b → (b || is_below other stop) ≡ true → is_within stop key ≡ true
    go true starts is = begins stop key other below starts
    go false starts is = either (starts_with nat_eq key stop) (is_below key stop) (lt_lt key other stop below is)

-- ---- counts

pub count_append : (stop : List ℕ) (xs ys : List Entry) → count_within stop (xs ++ ys) ≡ count_within stop xs + count_within stop ys
count_append stop [] ys = omega arith
count_append stop (x ∷ xs) ys = ⊎_elim
    (λ yes. rw yes (omega (arith, count_append stop xs ys)))
    (λ no. rw no (count_append stop xs ys))
    (cases_Bool (is_within stop x.0))

-- the first entry is one more
pub counted : (stop : List ℕ) (es : List Entry) (e : Entry) (later : List Entry) → es ≡ e ∷ later → is_within stop e.0 ≡ true → count_within stop es ≡ 1 + count_within stop later
counted stop es e later is within = ap (count_within stop) is ∙ (rw within refl)

-- it is none, nor is one behind it
none_above : (stop key : List ℕ) (es : List Entry) → is_within stop key ≡ false → AllAbove key es → count_within stop es ≡ 0
none_above stop key [] past all = refl
none_above stop key (e ∷ es) past all = ⊎_elim
    (λ yes. absurd (false≢true (sym past ∙ before_within stop key e.0 all.0 yes)))
    (λ no. rw no (none_above stop key es past all.1))
    (cases_Bool (is_within stop e.0))

pub none_counted : (stop : List ℕ) (es : List Entry) (e : Entry) (later : List Entry) → es ≡ e ∷ later → is_within stop e.0 ≡ false → IsRising es → count_within stop es ≡ 0
none_counted stop es e later is past rising =
    ap (count_within stop) is ∙ (rw past (none_above stop e.0 later past (subst (λ (xs : List Entry). IsRising xs) is rising).0))

-- all entries up to one that is within are counted
above_one : (key : List ℕ) (xs ys : List Entry) (e : Entry) → AllAbove key (xs ++ (e ∷ ys)) → is_below key e.0 ≡ true
above_one key [] ys e all = all.0
above_one key (x ∷ xs) ys e all = above_one key xs ys e all.1

all_counted : (stop : List ℕ) (xs ys : List Entry) (e : Entry) → IsRising (xs ++ (e ∷ ys)) → is_within stop e.0 ≡ true → count_within stop (xs ++ (e ∷ [])) ≡ length (xs ++ (e ∷ []))
all_counted stop [] ys e rising within = rw within refl
all_counted stop (x ∷ xs) ys e rising within =
    let here : is_within stop x.0 ≡ true = before_within stop x.0 e.0 (above_one x.0 xs ys e rising.0) within in
    let later = all_counted stop xs ys e rising.1 within in
    rw here (omega (arith, later))

rising_behind : (front es : List Entry) → IsRising (front ++ es) → IsRising es
rising_behind [] es rising = rising
rising_behind (x ∷ xs) es rising = rising_behind xs es rising.1

-- what is ahead of a walk rises
pub rest_rises : (key : List ℕ) (map : List Entry) → IsRising map → IsRising (rest_entries key map)
rest_rises key [] rising = tt
rest_rises key (e ∷ es) rising = ⊎_elim
    (λ yes. rw yes (rest_rises key es rising.1))
    (λ no. rw no rising)
    (cases_Bool (is_below e.0 key))

pub ahead_rises : (map : List Entry) (walk : TreeWalk) (entries : List Entry) → IsRising map → HasAhead map walk entries → IsRising entries
ahead_rises map walk entries rising ahead = ⊎_elim
    (λ none. subst (λ (es : List Entry). IsRising es) (sym (ahead.at_key none)) (rest_rises walk.next.items map rising))
    (λ some. let p = ahead.in_leaf some in rising_behind p.front entries (subst (λ (es : List Entry). IsRising es) p.map_is rising))
    (some_or_none walk.cursor.leaf.left)
  where
    some_or_none : (n : ℕ) → (n ≡ 0) ⊎ (0 < n)
    some_or_none zero = inl refl
    some_or_none (suc n) = inr (omega arith)

-- ---- the cells of a leaf

-- the first cells up to an index are passed
pub record AreUpTo (cells : List Entry) (at passed : ℕ) (cursor : TreeCursor) : Type 0 where
  pub front : List Entry
  pub rest : List Entry
  pub after : List ℕ
  pub cells_are : cells ≡ front ++ rest
  pub some : 0 < length rest
  pub count : length rest + passed ≡ length cells + 1
  pub here : AreCellsAt Leaf cursor.leaf.page at rest after

pub first_up_to : (cells : List Entry) (cursor : TreeCursor) → AreLeft cells cursor → 0 < length cells → AreUpTo cells cursor.leaf.at 1 cursor
first_up_to cells cursor left some = record { front = []; rest = cells; after = left.after; cells_are = refl; some = some; count = refl; here = left.spelled }

pub next_up_to : (cells : List Entry) (at passed : ℕ) (cursor : TreeCursor) (key payload : List ℕ) (end : ℕ) → AreUpTo cells at passed cursor → passed < length cells → IsCellAt Leaf cursor.leaf.page at key payload end → AreUpTo cells end (passed + 1) cursor
next_up_to cells at passed cursor key payload end up more view =
    let h = head_of Leaf cursor.leaf.page at up.rest up.after key payload end up.here up.some view in
    let long = ap (λ (es : List Entry). length es) h.cells_are in
    record {
      front = up.front ++ (h.c ∷ []);
      rest = h.cs;
      after = up.after;
      cells_are = up.cells_are ∙ (ap (λ (es : List Entry). up.front ++ es) h.cells_are ∙ sym (append_assoc up.front (h.c ∷ []) h.cs));
      some = omega (arith, long, up.count, more);
      count = omega (arith, long, up.count);
      here = h.rest;
    }

pub last_up_to : (cells : List Entry) (at passed : ℕ) (cursor : TreeCursor) → AreUpTo cells at passed cursor → length cells ≤ passed → IsLastAt cells at cursor
last_up_to cells at passed cursor up all = go up.rest up.cells_are up.some up.count up.here
  where
    go : (rest : List Entry) → cells ≡ up.front ++ rest → 0 < length rest → length rest + passed ≡ length cells + 1 → AreCellsAt Leaf cursor.leaf.page at rest up.after → IsLastAt cells at cursor
    go [] is some count here = absurd (omega (arith, some))
    go (e ∷ []) is some count here = record { front = up.front; last = e; after = up.after; cells_are = is; here = here }
    go (e ∷ (d ∷ es)) is some count here = absurd (omega (arith, count, all))

-- none is passed
pub none_passed : (map : List Entry) (stop : List ℕ) (walk : TreeWalk) (entries : List Entry) → HasAhead map walk entries → IsPassed map stop 0 walk entries
none_passed map stop walk entries ahead = record { front = []; later = entries; entries_are = refl; all = refl; ahead = ahead }

-- all are
pub leaf_passed : (map : List Entry) (stop : List ℕ) (before walk : TreeWalk) (entries : List Entry) (at : ℕ) (key payload : List ℕ) (end : ℕ) → IsRising map → (p : AreInLeaf map before entries) → IsLastAt p.cells at before.cursor
    → IsCellAt Leaf before.cursor.leaf.page at key payload end → is_within stop key ≡ true → walk.cursor.leaf.left ≡ 0 → walk.next.items ≡ key ++ (0 ∷ []) → IsPassed map stop before.cursor.leaf.left walk entries
leaf_passed map stop before walk entries at key payload end rising p last view within none next =
    let h = head_of Leaf before.cursor.leaf.page at (last.last ∷ []) last.after key payload end last.here (omega arith) view in
    let same : last.last ∷ [] ≡ h.c ∷ h.cs = h.cells_are in
    let one : h.c ≡ last.last = cc in
    let key_is : key ≡ last.last.0 = h.key_is ∙ ap (λ (e : Entry). e.0) one in
    let whole : map ≡ (p.front ++ last.front) ++ (last.last ∷ p.behind) =
    p.map_is ∙ (ap (λ (es : List Entry). p.front ++ es) (p.entries_are ∙ (ap (λ (es : List Entry). es ++ p.behind) last.cells_are ∙ append_assoc last.front (last.last ∷ []) p.behind)) ∙ sym (append_assoc p.front last.front (last.last ∷ p.behind))) in
    let rises = subst (λ (es : List Entry). IsRising es) whole rising in
    let cells_rise : IsRising (last.front ++ (last.last ∷ p.behind)) = rising_behind p.front (last.front ++ (last.last ∷ p.behind)) (subst (λ (es : List Entry). IsRising es) (whole ∙ append_assoc p.front last.front (last.last ∷ p.behind)) rising) in
    let long = ap (λ (es : List Entry). length es) last.cells_are in
    record {
      front = p.cells;
      later = p.behind;
      entries_are = p.entries_are;
      all = ap (count_within stop) last.cells_are ∙ (all_counted stop last.front p.behind last.last cells_rise (ap (is_within stop) (sym key_is) ∙ within) ∙ omega (arith, long, p.left.count));
      ahead = record {
        in_leaf = λ some. absurd (omega (arith, some, none));
        at_key = λ left. sym (ap (λ (k : List ℕ). rest_entries k map) (next ∙ ap (λ (k : List ℕ). k ++ (0 ∷ [])) key_is) ∙ (ap (λ (es : List Entry). rest_entries (last.last.0 ++ (0 ∷ [])) es) whole ∙ rest_behind (p.front ++ last.front) p.behind last.last rises));
      };
    }

-- ---- a count on the way

-- so many entries are counted, and what is ahead of a walk is yet to be
pub record IsCountedTo (map : List Entry) (start stop : List ℕ) (count : ℕ) (walk : TreeWalk) : Type 0 where
  pub later : List Entry
  pub ahead : HasAhead map walk later
  pub fits : count ≤ 2 ^ 64 - 1
  pub total : min (count_within stop (rest_entries start map)) (2 ^ 64 - 1) ≡ min (count + count_within stop later) (2 ^ 64 - 1)

pub none_yet : (map : List Entry) (start stop : List ℕ) (walk : TreeWalk) → HasAhead map walk (rest_entries start map) → IsCountedTo map start stop 0 walk
none_yet map start stop walk ahead = record { later = rest_entries start map; ahead = ahead; fits = omega arith; total = omega arith }

-- the entry that was found, and those that were passed, are counted
pub goes_on : (map : List Entry) (start stop : List ℕ) (count passed next : ℕ) (before found walk : TreeWalk) → IsRising map → (to : IsCountedTo map start stop count before) → IsStepped map true found to.later
    → ((e : Entry) → IsFoundBy found e → is_within stop e.0 ≡ true) → ((entries : List Entry) → HasAhead map found entries → IsPassed map stop passed walk entries)
    → next ≡ min (min (count + 1) (2 ^ 64 - 1) + passed) (2 ^ 64 - 1) → IsCountedTo map start stop next walk
goes_on map start stop count passed next before found walk rising to step within passes is =
    let p = passes step.1 step.4 in
    let one = counted stop to.later step.0 step.1 step.2 (within step.0 step.3) in
    let two = ap (count_within stop) p.entries_are ∙ count_append stop p.front p.later in
    record { later = p.later; ahead = p.ahead; fits = omega (arith, is); total = omega (arith, is, to.total, one, two, p.all, to.fits) }

-- nothing more is
pub ends : (map : List Entry) (start stop : List ℕ) (count : ℕ) (before : TreeWalk) → (to : IsCountedTo map start stop count before) → count_within stop to.later ≡ 0 → count ≡ min (count_within stop (rest_entries start map)) (2 ^ 64 - 1)
ends map start stop count before to none = omega (arith, to.total, to.fits, none)

-- up to a bound
pub ends_below : (map : List Entry) (start stop : List ℕ) (count most : ℕ) (before : TreeWalk) → (to : IsCountedTo map start stop count before) → count_within stop to.later ≡ 0 → count < most → most ≤ 2 ^ 64 - 1
    → count ≡ min (count_within stop (rest_entries start map)) most
ends_below map start stop count most before to none less fits = omega (arith, to.total, to.fits, none, less, fits)

-- as many as are wanted are counted
pub counts_enough : (map : List Entry) (start stop : List ℕ) (count most : ℕ) (before : TreeWalk) → IsCountedTo map start stop count before → most ≤ count → most ≡ min (count_within stop (rest_entries start map)) most
counts_enough map start stop count most before to enough = omega (arith, to.total, to.fits, enough)
