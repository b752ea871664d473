-- What scans find.
use Rattle.std.proofs.Common.{◌≡◌, ℕ, ◌<◌, Bool, true, false, if◌then◌else◌, List, [], ◌∷◌, ◌++◌, Option, Some, None, refl, ap, sym, ◌∙◌, subst, arith, length, nat_eq, ◌&&◌}
use Rattle.std.proofs.lemmas.Bool.Decides.{nat_tests}
use Rattle.std.specs.declared.cmp.Ordering.{Ordering}
use Rattle.std.specs.declared.cmp.Ordering.TheVariants.{Less, Equal, Greater}
use Rattle.std.specs.Ordering.{nat_cmp, ordering_reverse, ordering_then, is_gt, MatchOrdering}
use Rattle.std.proofs.lemmas.Cmp.{nat_list_cmp_total, ranked}
use Rattle.store.specs.Records.{Entries, Records, Changes, key_cmp, IsBefore, IsOrdered, entries_where, is_from, is_not_less, first, first_from, has_prefix, applied, with_front, lookup, found_by, entry_at, entry_of}
use Rattle.store.proofs.Changes.{key_trans, same_key, itself, after, reversed, before_trans, before_entries_where, ordered_entries_where, before_changed, changed_front, lookup-before}

-- the key with a zero byte is the next one
pub next_key : (k e : List ℕ) → is_from (k ++ 0 ∷ []) e ≡ is_gt (key_cmp e k)
next_key [] [] = refl
next_key [] (x ∷ xs) = go (nat_cmp x 0) (ranked x 0 _ refl) xs
  where
    go : (o : Ordering) → MatchOrdering o (x < 0) (x ≡ 0) (0 < x) → (rest : List ℕ) → is_not_less (ordering_then o (key_cmp rest [])) ≡ true
    go Less h rest = absurd (omega arith)
    go Equal h [] = refl
    go Equal h (y ∷ rest) = refl
    go Greater h rest = refl
next_key (y ∷ k) [] = refl
next_key (y ∷ k) (x ∷ e) = go (nat_cmp x y) (next_key k e)
  where
    go : (o : Ordering) → is_from (k ++ 0 ∷ []) e ≡ is_gt (key_cmp e k) → is_not_less (ordering_then o (key_cmp e (k ++ 0 ∷ []))) ≡ is_gt (ordering_then o (key_cmp e k))
    go Less h = refl
    go Equal h = h
    go Greater h = refl

all_after : {X : Type 0} (k : List ℕ) (es : Entries X) → IsBefore k es → entries_where (is_from (k ++ 0 ∷ [])) es ≡ es
all_after k [] h = refl
all_after {X} k (e ∷ es) h =
    let t : is_from (k ++ 0 ∷ []) e.0 ≡ true = next_key k e.0 ∙ ap is_gt (after k e.0 h.0) in
    rw t (ap (λ (zs : Entries X). e ∷ zs) (all_after k es h.1))

from_later : (k a b : List ℕ) → is_from k a ≡ true → key_cmp a b ≡ Less → is_from k b ≡ true
from_later k a b h l = go (key_cmp a k) refl h
  where
    go : (o : Ordering) → o ≡ key_cmp a k → is_not_less o ≡ true → is_not_less (key_cmp b k) ≡ true
    go Less e t = cc
    go Equal e t = let same : a ≡ k = same_key a k (sym e) in let g : key_cmp b k ≡ Greater = subst (λ (z : List ℕ). key_cmp b z ≡ Greater) same (after a b l) in rw g refl
    go Greater e t =
        let less : key_cmp k a ≡ Less = nat_list_cmp_total.antisymm k a ∙ ap ordering_reverse (sym e) in
        rw (after k b (key_trans k a b less l)) refl

-- behind a key that is at the start of a scan or after it, all entries are in the scan
pub all_from : {X : Type 0} (k a : List ℕ) (es : Entries X) → is_from k a ≡ true → IsBefore a es → entries_where (is_from k) es ≡ es
all_from k a [] h t = refl
all_from {X} k a (e ∷ es) h t = rw (from_later k a e.0 h t.0) (ap (λ (zs : Entries X). e ∷ zs) (all_from k a es h t.1))

first_before : {X : Type 0} (a : List ℕ) (q : List ℕ → Bool) (es : Entries X) (e : List ℕ × X) → IsBefore a es → first (entries_where q es) ≡ Some e → key_cmp a e.0 ≡ Less
first_before {X} a q es e h f = go (entries_where q es) (before_entries_where a q es h) f
  where
    go : (xs : Entries X) → IsBefore a xs → first xs ≡ Some e → key_cmp a e.0 ≡ Less
    go [] b s = cc
    go (x ∷ xs) b s = let same : x ≡ e = cc in subst (λ (z : List ℕ × X). key_cmp a z.0 ≡ Less) same b.0

-- a scan goes on behind the key that it found
pub scanned : {X : Type 0} (k : List ℕ) (es : Entries X) (e : List ℕ × X) → IsOrdered es → first_from k es ≡ Some e
    → entries_where (is_from k) es ≡ e ∷ entries_where (is_from (e.0 ++ 0 ∷ [])) es
scanned k [] e o f = cc
scanned {X} k (x ∷ xs) e o f = go (is_from k x.0) refl f (scanned k xs e o.1)
  where
    go : (b : Bool) → b ≡ is_from k x.0 → first (if b then x ∷ entries_where (is_from k) xs else entries_where (is_from k) xs) ≡ Some e
        → (first_from k xs ≡ Some e → entries_where (is_from k) xs ≡ e ∷ entries_where (is_from (e.0 ++ 0 ∷ [])) xs)
        → (if b then x ∷ entries_where (is_from k) xs else entries_where (is_from k) xs) ≡ e ∷ (if is_from (e.0 ++ 0 ∷ []) x.0 then x ∷ entries_where (is_from (e.0 ++ 0 ∷ [])) xs else entries_where (is_from (e.0 ++ 0 ∷ [])) xs)
    go true h s later =
        let same : x ≡ e = cc in
        let out : is_from (x.0 ++ 0 ∷ []) x.0 ≡ false = next_key x.0 x.0 ∙ ap is_gt (itself x.0) in
        subst (λ (z : List ℕ × X). x ∷ entries_where (is_from k) xs ≡ z ∷ (if is_from (z.0 ++ 0 ∷ []) x.0 then x ∷ entries_where (is_from (z.0 ++ 0 ∷ [])) xs else entries_where (is_from (z.0 ++ 0 ∷ [])) xs)) same
        (rw out (ap (λ (zs : Entries X). x ∷ zs) (all_from k x.0 xs (sym h) o.0 ∙ sym (all_after x.0 xs o.0))))
    go false h s later =
        let less : key_cmp x.0 e.0 ≡ Less = first_before x.0 (is_from k) xs e o.0 s in
        let out : is_from (e.0 ++ 0 ∷ []) x.0 ≡ false = next_key e.0 x.0 ∙ ap is_gt less in
        rw out (later s)

-- what is found first is at the start of the scan or after it
pub found_from : {X : Type 0} (k : List ℕ) (es : Entries X) (e : List ℕ × X) → first_from k es ≡ Some e → is_from k e.0 ≡ true
found_from k [] e f = cc
found_from {X} k (x ∷ xs) e f = go (is_from k x.0) refl f (found_from k xs e)
  where
    go : (b : Bool) → b ≡ is_from k x.0 → first (if b then x ∷ entries_where (is_from k) xs else entries_where (is_from k) xs) ≡ Some e → (first_from k xs ≡ Some e → is_from k e.0 ≡ true) → is_from k e.0 ≡ true
    go true h s later = let same : x ≡ e = cc in subst (λ (z : List ℕ × X). is_from k z.0 ≡ true) same (sym h)
    go false h s later = later s

-- ---- prefixes

-- behind the entries of a prefix there are no more of them
pub past_prefix : (p n e : List ℕ) → has_prefix p n ≡ true → is_from n e ≡ true → has_prefix p e ≡ false → (k : List ℕ) → key_cmp e k ≡ Less → has_prefix p k ≡ false
past_prefix [] n e a b c k l = cc
past_prefix (x ∷ p) [] e a b c k l = cc
past_prefix (x ∷ p) (m ∷ n) [] a b c k l = cc
past_prefix (x ∷ p) (m ∷ n) (y ∷ e) a b c [] l = refl
past_prefix (x ∷ p) (m ∷ n) (y ∷ e) a b c (z ∷ k) l =
    go (nat_eq x m) refl a (nat_cmp y m) (ranked y m _ refl) b (nat_eq x y) refl c (nat_cmp y z) (ranked y z _ refl) l (nat_eq x z) refl (λ f g h. past_prefix p n e f g h k)
  where
    go : (t : Bool) → t ≡ nat_eq x m → (t && has_prefix p n) ≡ true
        → (o : Ordering) → MatchOrdering o (y < m) (y ≡ m) (m < y) → is_not_less (ordering_then o (key_cmp e n)) ≡ true
        → (u : Bool) → u ≡ nat_eq x y → (u && has_prefix p e) ≡ false
        → (r : Ordering) → MatchOrdering r (y < z) (y ≡ z) (z < y) → ordering_then r (key_cmp e k) ≡ Less
        → (v : Bool) → v ≡ nat_eq x z
        → (has_prefix p n ≡ true → is_from n e ≡ true → has_prefix p e ≡ false → key_cmp e k ≡ Less → has_prefix p k ≡ false)
        → (v && has_prefix p k) ≡ false
    go t ti ta o oi ob u ui uc r ri rl false vi later = refl
    go false ti ta o oi ob u ui uc r ri rl true vi later = cc
    go true ti ta Less oi ob u ui uc r ri rl true vi later = cc
    go true ti ta Greater oi ob u ui uc Less ri rl true vi later = absurd (grind (arith, nat_tests))
    go true ti ta Greater oi ob u ui uc Equal ri rl true vi later = absurd (grind (arith, nat_tests))
    go true ti ta Greater oi ob u ui uc Greater ri rl true vi later = cc
    go true ti ta Equal oi ob false ui uc Less ri rl true vi later = absurd (grind (arith, nat_tests))
    go true ti ta Equal oi ob false ui uc Equal ri rl true vi later = absurd (grind (arith, nat_tests))
    go true ti ta Equal oi ob false ui uc Greater ri rl true vi later = cc
    go true ti ta Equal oi ob true ui uc Less ri rl true vi later = absurd (grind (arith, nat_tests))
    go true ti ta Equal oi ob true ui uc Equal ri rl true vi later = later ta ob uc rl
    go true ti ta Equal oi ob true ui uc Greater ri rl true vi later = cc

none_after : {X : Type 0} (p n e : List ℕ) → has_prefix p n ≡ true → is_from n e ≡ true → has_prefix p e ≡ false → (es : Entries X) → IsBefore e es → entries_where (has_prefix p) es ≡ []
none_after p n e a b c [] h = refl
none_after p n e a b c (x ∷ es) h = rw (past_prefix p n e a b c x.0 h.0) (none_after p n e a b c es h.1)

-- a scan that finds another key is past the prefix
pub prefix_ends : {X : Type 0} (p n : List ℕ) (es : Entries X) (e : List ℕ × X) → IsOrdered es → has_prefix p n ≡ true → first_from n es ≡ Some e → has_prefix p e.0 ≡ false
    → entries_where (has_prefix p) (entries_where (is_from n) es) ≡ []
prefix_ends p n es e o a f c =
    let rest : entries_where (is_from n) es ≡ e ∷ entries_where (is_from (e.0 ++ 0 ∷ [])) es = scanned n es e o f in
    let sorted : IsOrdered (e ∷ entries_where (is_from (e.0 ++ 0 ∷ [])) es) = subst IsOrdered rest (ordered_entries_where (is_from n) es o) in
    rw rest (rw c (none_after p n e.0 a (found_from n es e f) c (entries_where (is_from (e.0 ++ 0 ∷ [])) es) sorted.0))

-- one that finds a key of the prefix has the others behind it
pub prefix_goes_on : {X : Type 0} (p n : List ℕ) (es : Entries X) (e : List ℕ × X) → IsOrdered es → first_from n es ≡ Some e → has_prefix p e.0 ≡ true
    → entries_where (has_prefix p) (entries_where (is_from n) es) ≡ e ∷ entries_where (has_prefix p) (entries_where (is_from (e.0 ++ 0 ∷ [])) es)
prefix_goes_on p n es e o f c = rw (scanned n es e o f) (rw c refl)

-- and one that finds nothing has none
pub nothing_left : {X : Type 0} (p n : List ℕ) (es : Entries X) → first_from n es ≡ None → entries_where (has_prefix p) (entries_where (is_from n) es) ≡ []
nothing_left {X} p n es f = go (entries_where (is_from n) es) f
  where
    go : (xs : Entries X) → first xs ≡ None → entries_where (has_prefix p) xs ≡ []
    go [] h = refl
    go (x ∷ xs) h = cc

-- each step of a scan leaves fewer entries
pub fewer : {X : Type 0} (n : List ℕ) (es : Entries X) (e : List ℕ × X) → IsOrdered es → first_from n es ≡ Some e → length (entries_where (is_from (e.0 ++ 0 ∷ [])) es) < length (entries_where (is_from n) es)
fewer n es e o f = rw (scanned n es e o f) (omega arith)

at_prefix : (p k : List ℕ) → has_prefix p k ≡ true → is_from p k ≡ true
at_prefix [] [] h = refl
at_prefix [] (x ∷ k) h = refl
at_prefix (y ∷ p) [] h = cc
at_prefix (y ∷ p) (x ∷ k) h = go (nat_eq y x) refl h (nat_cmp x y) (ranked x y _ refl) (at_prefix p k)
  where
    go : (t : Bool) → t ≡ nat_eq y x → (t && has_prefix p k) ≡ true → (o : Ordering) → MatchOrdering o (x < y) (x ≡ y) (y < x) → (has_prefix p k ≡ true → is_from p k ≡ true) → is_not_less (ordering_then o (key_cmp k p)) ≡ true
    go false i j o m later = cc
    go true i j Less m later = absurd (grind (arith, nat_tests))
    go true i j Equal m later = later j
    go true i j Greater m later = refl

-- all keys of a prefix are at it or after it
pub prefix_begins : {X : Type 0} (p : List ℕ) (es : Entries X) → entries_where (has_prefix p) (entries_where (is_from p) es) ≡ entries_where (has_prefix p) es
prefix_begins p [] = refl
prefix_begins {X} p (e ∷ es) = go (is_from p e.0) refl (has_prefix p e.0) refl (prefix_begins p es)
  where
    go : (a : Bool) → a ≡ is_from p e.0 → (b : Bool) → b ≡ has_prefix p e.0 → entries_where (has_prefix p) (entries_where (is_from p) es) ≡ entries_where (has_prefix p) es
        → entries_where (has_prefix p) (if a then e ∷ entries_where (is_from p) es else entries_where (is_from p) es) ≡ (if b then e ∷ entries_where (has_prefix p) es else entries_where (has_prefix p) es)
    go true h true i later = rw (sym i) (ap (λ (zs : Entries X). e ∷ zs) later)
    go true h false i later = rw (sym i) later
    go false h false i later = later
    go false h true i later = let t : is_from p e.0 ≡ true = at_prefix p e.0 (sym i) in cc

-- ---- the least entry under changes

front_stays : (e : List ℕ × List ℕ) (cs : Changes) (es : Records) → IsBefore e.0 cs → applied cs (e ∷ es) ≡ e ∷ applied cs es
front_stays e [] es h = refl
front_stays e (c ∷ cs) es h = rw (front_stays e cs es h.1) (rw (after e.0 c.0 h.0) refl)

pub before_applied : (k : List ℕ) (cs : Changes) (es : Records) → IsBefore k cs → IsBefore k es → IsBefore k (applied cs es)
before_applied k [] es h b = b
before_applied k (c ∷ cs) es h b = before_changed k c.0 c.1 (applied cs es) h.0 (before_applied k cs es h.1 b)

-- an entry before all changes
pub entry_first : (e : List ℕ × List ℕ) (cs : Changes) (es : Records) → IsBefore e.0 cs → first (applied cs (e ∷ es)) ≡ Some e
entry_first e cs es h = ap first (front_stays e cs es h)

-- a change before all entries and all other changes
pub change_first : (k : List ℕ) (v : Option (List ℕ)) (cs : Changes) (es : Records) → IsBefore k cs → IsBefore k es
    → applied ((k, v) ∷ cs) es ≡ with_front k v (applied cs es)
change_first k v cs es h b = changed_front k v (applied cs es) (before_applied k cs es h b)

-- a change of the first entry
pub change_at_first : (k w : List ℕ) (v : Option (List ℕ)) (cs : Changes) (es : Records) → IsBefore k cs → IsBefore k es
    → applied ((k, v) ∷ cs) ((k, w) ∷ es) ≡ with_front k v (applied cs es)
change_at_first k w v cs es h b = rw (front_stays (k, w) cs es h) (rw (itself k) refl)

-- ---- an entry and a scan from its key

nowhere : {X : Type 0} (e f : X) → None ≡ Some f → Some e ≡ Some f
nowhere e f h = cc

-- an entry that is found by its key is the first of a scan from it
pub entry_scanned : {X : Type 0} (key : List ℕ) (value : X) (es : Entries X) → IsOrdered es → entry_at key es ≡ Some (key, value) → first_from key es ≡ Some (key, value)
entry_scanned key value [] o f = cc
entry_scanned {X} key value (e ∷ es) o f = go (key_cmp e.0 key) refl (entry_scanned key value es o.1)
  where
    go : (r : Ordering) → r ≡ key_cmp e.0 key → (entry_at key es ≡ Some (key, value) → first_from key es ≡ Some (key, value))
        → first (if is_not_less r then e ∷ entries_where (is_from key) es else entries_where (is_from key) es) ≡ Some (key, value)
    go Less c later =
        let out : key_cmp key e.0 ≡ Greater = after e.0 key (sym c) in
        later (subst (λ (z : Ordering). entry_of key (found_by z e.1 (lookup key es)) ≡ Some (key, value)) out f)
    go Equal c later =
        let same : e.0 ≡ key = same_key e.0 key (sym c) in
        let here : key_cmp key e.0 ≡ Equal = subst (λ (z : List ℕ). key_cmp key z ≡ Equal) (sym same) (itself key) in
        let is : Some (key, e.1) ≡ Some (key, value) = subst (λ (z : Ordering). entry_of key (found_by z e.1 (lookup key es)) ≡ Some (key, value)) here f in
        ap (λ (z : List ℕ). Some (z, e.1)) same ∙ is
    go Greater c later =
        let less : key_cmp key e.0 ≡ Less = reversed e.0 key (sym c) in
        let is : entry_of key (lookup key es) ≡ Some (key, value) = subst (λ (z : Ordering). entry_of key (found_by z e.1 (lookup key es)) ≡ Some (key, value)) less f in
        nowhere e (key, value) (subst (λ (z : Option X). entry_of key z ≡ Some (key, value)) (lookup-before key es (before_trans key e.0 es less o.0)) is)
