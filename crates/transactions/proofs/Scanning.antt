-- What scans find, by the values at keys.
use Rattle.std.proofs.Common.{◌≡◌, ℕ, Bool, true, false, if◌then◌else◌, List, [], ◌∷◌, ◌++◌, Option, Some, None, refl, ap, sym, ◌∙◌, subst}
use Rattle.std.specs.declared.cmp.Ordering.{Ordering}
use Rattle.std.specs.declared.cmp.Ordering.TheVariants.{Less, Equal, Greater}
use Rattle.std.specs.Ordering.{is_lt, is_gt}
use Rattle.store.specs.Records.{Entries, key_cmp, IsOrdered, lookup, entries_where, is_from, is_not_less, first, first_from}
use Rattle.store.proofs.Changes.{key_trans, same_key, itself, reversed, after, before_trans, lookup-before}
use Rattle.store.proofs.Scans.{next_key, found_from}

-- a key at the start of a scan or after it, and one before the start
from_start : (from key early : List ℕ) → is_from from key ≡ true → is_from from early ≡ false → key_cmp key early ≡ Greater
from_start from key early late soon = go (key_cmp early from) refl (key_cmp key from) refl soon late
  where
    go : (o : Ordering) → o ≡ key_cmp early from → (p : Ordering) → p ≡ key_cmp key from → is_not_less o ≡ false → is_not_less p ≡ true → key_cmp key early ≡ Greater
    go Less e Less f s t = cc
    go Less e Equal f s t = subst (λ (k : List ℕ). key_cmp k early ≡ Greater) (sym (same_key key from (sym f))) (after early from (sym e))
    go Less e Greater f s t = after early key (key_trans early from key (sym e) (reversed key from (sym f)))
    go Equal e p f s t = cc
    go Greater e p f s t = cc

-- where a scan finds nothing, no key from its start on has a value
pub nothing_from : {X : Type 0} (from : List ℕ) (es : Entries X) → first_from from es ≡ None → (key : List ℕ) → is_from from key ≡ true → lookup key es ≡ None
nothing_from from [] none key late = refl
nothing_from {X} from (e ∷ es) none key late = go (is_from from e.0) refl none (λ more. nothing_from from es more key late)
  where
    go : (b : Bool) → b ≡ is_from from e.0 → first (if b then e ∷ entries_where (is_from from) es else entries_where (is_from from) es) ≡ None
        → (first_from from es ≡ None → lookup key es ≡ None) → lookup key (e ∷ es) ≡ None
    go true is some later = cc
    go false is more later = rw (from_start from key e.0 late (sym is)) (later more)

-- no key between the start of a scan and what it finds has a value
pub nothing_between : {X : Type 0} (from : List ℕ) (es : Entries X) (found : List ℕ × X) → IsOrdered es → first_from from es ≡ Some found
    → (key : List ℕ) → is_from from key ≡ true → key_cmp key found.0 ≡ Less → lookup key es ≡ None
nothing_between from [] found rise is key late less = refl
nothing_between {X} from (e ∷ es) found rise is key late less = go (is_from from e.0) refl is (λ more. nothing_between from es found rise.1 more key late less)
  where
    go : (b : Bool) → b ≡ is_from from e.0 → first (if b then e ∷ entries_where (is_from from) es else entries_where (is_from from) es) ≡ Some found
        → (first_from from es ≡ Some found → lookup key es ≡ None) → lookup key (e ∷ es) ≡ None
    go true at here later =
        let same : e ≡ found = cc in
        let before : key_cmp key e.0 ≡ Less = subst (λ (z : List ℕ × X). key_cmp key z.0 ≡ Less) (sym same) less in
        rw before (lookup-before key es (before_trans key e.0 es before rise.0))
    go false at more later = rw (from_start from key e.0 late (sym at)) (later more)

-- the entry that a scan finds is the one of its key
pub found_value : {X : Type 0} (from : List ℕ) (es : Entries X) (found : List ℕ × X) → IsOrdered es → first_from from es ≡ Some found → lookup found.0 es ≡ Some found.1
found_value from [] found rise is = cc
found_value {X} from (e ∷ es) found rise is = go (is_from from e.0) refl is (λ more. found_value from es found rise.1 more)
  where
    go : (b : Bool) → b ≡ is_from from e.0 → first (if b then e ∷ entries_where (is_from from) es else entries_where (is_from from) es) ≡ Some found
        → (first_from from es ≡ Some found → lookup found.0 es ≡ Some found.1) → lookup found.0 (e ∷ es) ≡ Some found.1
    go true at here later =
        let same : e ≡ found = cc in
        subst (λ (z : List ℕ × X). lookup z.0 (e ∷ es) ≡ Some z.1) same (rw (itself e.0) refl)
    go false at more later = rw (from_start from found.0 e.0 (found_from from es found more) (sym at)) (later more)

no_value : {X : Type 0} {P : Type 0} (x : X) (v : Option X) → v ≡ None → v ≡ Some x → P
no_value x v none some = let wrong : None ≡ Some x = sym none ∙ some in cc

-- an entry before which no key from the start of a scan on has a value is what it finds
pub found_is : {X : Type 0} (from key : List ℕ) (value : X) (es : Entries X) → IsOrdered es → is_from from key ≡ true → lookup key es ≡ Some value
    → ((other : List ℕ) → is_from from other ≡ true → key_cmp other key ≡ Less → lookup other es ≡ None)
    → first_from from es ≡ Some (key, value)
found_is {X} from key value es rise late is none = go (first_from from es) refl
  where
    at_key : (found : List ℕ × X) → first_from from es ≡ Some found → key_cmp found.0 key ≡ Equal → Some found ≡ Some (key, value)
    at_key found f same =
        let one : found.0 ≡ key = same_key found.0 key same in
        let there : Some found.1 ≡ Some value = sym (found_value from es found rise f) ∙ ap (λ (k : List ℕ). lookup k es) one ∙ is in
        let what : found.1 ≡ value = cc in
        ap (λ (k : List ℕ). Some (k, found.1)) one ∙ ap (λ (v : X). Some (key, v)) what

    by_order : (found : List ℕ × X) → first_from from es ≡ Some found → (o : Ordering) → o ≡ key_cmp found.0 key → Some found ≡ Some (key, value)
    by_order found f Less o = no_value found.1 (lookup found.0 es) (none found.0 (found_from from es found f) (sym o)) (found_value from es found rise f)
    by_order found f Equal o = at_key found f (sym o)
    by_order found f Greater o = no_value value (lookup key es) (nothing_between from es found rise f key late (reversed found.0 key (sym o))) is

    go : (found : Option (List ℕ × X)) → found ≡ first_from from es → first_from from es ≡ Some (key, value)
    go None f = no_value value (lookup key es) (nothing_from from es (sym f) key late) is
    go (Some found) f = sym f ∙ by_order found (sym f) (key_cmp found.0 key) refl

-- where no key from the start of a scan on has a value, it finds nothing
pub found_none : {X : Type 0} (from : List ℕ) (es : Entries X) → IsOrdered es → ((key : List ℕ) → is_from from key ≡ true → lookup key es ≡ None) → first_from from es ≡ None
found_none {X} from es rise none = go (first_from from es) refl
  where
    go : (found : Option (List ℕ × X)) → found ≡ first_from from es → first_from from es ≡ None
    go None f = sym f
    go (Some found) f = no_value found.1 (lookup found.0 es) (none found.0 (found_from from es found (sym f))) (found_value from es found rise (sym f))

-- scans of entries with the same values from their start on find the same
pub found_same : {X : Type 0} (from : List ℕ) (xs ys : Entries X) → IsOrdered xs → IsOrdered ys → ((key : List ℕ) → is_from from key ≡ true → lookup key ys ≡ lookup key xs) → first_from from ys ≡ first_from from xs
found_same {X} from xs ys rise too same = go (first_from from xs) refl
  where
    go : (found : Option (List ℕ × X)) → found ≡ first_from from xs → first_from from ys ≡ first_from from xs
    go None f = found_none from ys too (λ key late. same key late ∙ nothing_from from xs (sym f) key late) ∙ f
    go (Some found) f =
        let late = found_from from xs found (sym f) in
        found_is from found.0 found.1 ys too late (same found.0 late ∙ found_value from xs found rise (sym f))
        (λ key on less. same key on ∙ nothing_between from xs found rise (sym f) key on less) ∙ f

-- a key is before another one or from it on
by_start : {P : Type 0} (start key : List ℕ) → (key_cmp key start ≡ Less → P) → (is_from start key ≡ true → P) → P
by_start {P} start key early late = go (key_cmp key start) refl
  where
    go : (o : Ordering) → o ≡ key_cmp key start → P
    go Less o = early (sym o)
    go Equal o = late (sym (ap is_not_less o))
    go Greater o = late (sym (ap is_not_less o))

-- from a later start on, too
pub from_on : (a b key : List ℕ) → is_from a b ≡ true → is_from b key ≡ true → is_from a key ≡ true
from_on a b key first second = go (key_cmp key a) refl (key_cmp key b) refl second (key_cmp b a) refl first
  where
    go : (o : Ordering) → o ≡ key_cmp key a → (p : Ordering) → p ≡ key_cmp key b → is_not_less p ≡ true → (q : Ordering) → q ≡ key_cmp b a → is_not_less q ≡ true → is_from a key ≡ true
    go Equal o p i s q j t = sym (ap is_not_less o)
    go Greater o p i s q j t = sym (ap is_not_less o)
    go Less o Less i s q j t = cc
    go Less o Equal i s q j t =
        let same : key ≡ b = same_key key b (sym i) in
        let less : key_cmp b a ≡ Less = subst (λ (k : List ℕ). key_cmp k a ≡ Less) same (sym o) in
        let wrong : is_not_less Less ≡ true = ap is_not_less (sym less ∙ sym j) ∙ t in
        cc
    go Less o Greater i s q j t =
        let less : key_cmp b a ≡ Less = key_trans b key a (reversed key b (sym i)) (sym o) in
        let wrong : is_not_less Less ≡ true = ap is_not_less (sym less ∙ sym j) ∙ t in
        cc

-- a scan that begins later finds the same, where no key between the two starts has a value
pub found_later : {X : Type 0} (from later : List ℕ) (es : Entries X) → IsOrdered es → is_from from later ≡ true
    → ((key : List ℕ) → is_from from key ≡ true → key_cmp key later ≡ Less → lookup key es ≡ None)
    → first_from later es ≡ first_from from es
found_later {X} from later es rise late none = go (first_from later es) refl
  where
    go : (found : Option (List ℕ × X)) → found ≡ first_from later es → first_from later es ≡ first_from from es
    go None f = sym f ∙ sym (found_none from es rise (λ key at. by_start later key (none key at) (nothing_from later es (sym f) key)))
    go (Some found) f = sym f ∙ sym (found_is from found.0 found.1 es rise (from_on from later found.0 late (found_from later es found (sym f))) (found_value later es found rise (sym f))
        (λ key at less. by_start later key (none key at) (λ on. nothing_between later es found rise (sym f) key on less)))

-- the keys before the next key of one are those before it, and it
pub before_next : {P : List ℕ → Type 0} (k : List ℕ) → P k → ((key : List ℕ) → key_cmp key k ≡ Less → P key) → (key : List ℕ) → key_cmp key (k ++ 0 ∷ []) ≡ Less → P key
before_next {P} k here less key early = go (key_cmp key k) refl
  where
    go : (o : Ordering) → o ≡ key_cmp key k → P key
    go Less o = less key (sym o)
    go Equal o = subst P (sym (same_key key k (sym o))) here
    go Greater o =
        let on : is_from (k ++ 0 ∷ []) key ≡ true = next_key k key ∙ cc in
        let wrong : is_not_less Less ≡ true = ap is_not_less (sym early) ∙ on in
        cc

-- a key before one that is not after another is before that other
pub from_less : (key a b : List ℕ) → key_cmp key a ≡ Less → is_lt (key_cmp b a) ≡ false → key_cmp key b ≡ Less
from_less key a b early not_less = go (key_cmp b a) refl not_less
  where
    go : (o : Ordering) → o ≡ key_cmp b a → is_lt o ≡ false → key_cmp key b ≡ Less
    go Less o is = cc
    go Equal o is = subst (λ (k : List ℕ). key_cmp key k ≡ Less) (sym (same_key b a (sym o))) early
    go Greater o is = key_trans key a b early (reversed b a (sym o))

-- the next key of one comes from it on
pub next_is_from : (k : List ℕ) → is_from k (k ++ 0 ∷ []) ≡ true
next_is_from k = go (key_cmp (k ++ 0 ∷ []) k) (sym (next_key k (k ++ 0 ∷ [])) ∙ ap is_not_less (itself (k ++ 0 ∷ [])))
  where
    go : (o : Ordering) → is_gt o ≡ true → is_not_less o ≡ true
    go Less is = cc
    go Equal is = refl
    go Greater is = refl
