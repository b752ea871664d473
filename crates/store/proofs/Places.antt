-- What stands at the place of a key, and what an edit there makes of the entries.
use Rattle.std.proofs.Common.{◌≡◌, ℕ, zero, suc, ◌<◌, ◌≤◌, ◌-◌, Bool, true, false, if◌then◌else◌, List, [], ◌∷◌, Option, Some, None, IsSome, refl, ap, sym, ◌∙◌, subst, inl, inr, arith, length, get_or, take, drop, set, slice_get}
use Rattle.std.specs.List.{AllByRecursion, insert, remove}
use Rattle.std.specs.List.Sorted.{IsPartitionPoint, IsPartitionedBy}
use Rattle.std.specs.declared.cmp.Ordering.{Ordering}
use Rattle.std.specs.declared.cmp.Ordering.TheVariants.{Less, Equal, Greater}
use Rattle.std.specs.Ordering.{is_lt}
use Rattle.store.specs.Batch.{IsBatch}
use Rattle.store.specs.Records.{Changes, IsChangeSize, Entries, key_cmp, IsBefore, IsOrdered, entries_where, is_from, is_not_less, first_from, changed, entry_at, entry_of, lookup}
use Rattle.store.proofs.Changes.{key_trans, same_key, itself, after, reversed, before_trans, lookup-before, ordered_changed, all_changed}
use Rattle.std.specs.Ordering.{is_eq}
use Rattle.std.proofs.lemmas.Bool.{cases_lt}
use Rattle.std.proofs.lemmas.List.{take_all, length-drop}
use Rattle.std.specs.Str.{bytes_eq}
use Rattle.std.proofs.lemmas.Map.Text.{is_eq-slice_cmp}
use Rattle.store.specs.Place.{IsPlace, has_key_at, has_key}

-- whether an entry's key is less than this one
abbrev pub is_less : {X : Type 0} → List ℕ → List ℕ × X → Bool
is_less key e = is_lt (key_cmp e.0 key)

pub less_key : (o : Ordering) → is_lt o ≡ true → o ≡ Less
less_key Less h = refl
less_key Equal h = cc
less_key Greater h = cc

pub not_less_key : (o : Ordering) → is_lt o ≡ false → is_not_less o ≡ true
not_less_key Less h = cc
not_less_key Equal h = refl
not_less_key Greater h = refl

-- where keys rise, those that are less come first
before_at : {X : Type 0} (a : List ℕ) (es : Entries X) (j : ℕ) (d : List ℕ × X) → IsBefore a es → j < length es → key_cmp a (get_or es j d).0 ≡ Less
before_at a [] j d h lt = absurd (omega arith)
before_at a (e ∷ es) zero d h lt = h.0
before_at a (e ∷ es) (suc j) d h lt = before_at a es j d h.1 (omega arith)

pub rising : {X : Type 0} (es : Entries X) (i j : ℕ) (d : List ℕ × X) → IsOrdered es → i < j → j < length es → key_cmp (get_or es i d).0 (get_or es j d).0 ≡ Less
rising [] i j d o lt inside = absurd (omega arith)
rising (e ∷ es) i zero d o lt inside = absurd (omega arith)
rising (e ∷ es) zero (suc j) d o lt inside = before_at e.0 es j d o.0 (omega arith)
rising (e ∷ es) (suc i) (suc j) d o lt inside = rising es i j d o.1 (omega arith) (omega arith)

-- a search for the key ends at its place
pub parted : {X : Type 0} (key : List ℕ) (es : Entries X) → IsOrdered es → IsPartitionedBy (is_less key) es
parted {X} key es o i j d le inside less = go (key_cmp (get_or es j d).0 key) refl
  where
    go : (r : Ordering) → r ≡ key_cmp (get_or es j d).0 key → is_less key (get_or es i d) ≡ true
    go Less c = elim (cases_lt i j) [
      | inl lt ↦ ap is_lt (key_trans (get_or es i d).0 (get_or es j d).0 key (rising es i j d o lt inside) (sym c))
      | inr from ↦ let same : j ≡ i = omega (arith, from, le) in subst (λ (k : ℕ). is_less key (get_or es k d) ≡ true) same less
    ]
    go Equal c = let wrong : is_lt Equal ≡ true = ap is_lt c ∙ less in cc
    go Greater c = let wrong : is_lt Greater ≡ true = ap is_lt c ∙ less in cc

none_less : {X : Type 0} (key : List ℕ) (es : Entries X) → ((k : ℕ) (d : List ℕ × X) → k < length es → is_less key (get_or es k d) ≡ false) → AllByRecursion (λ e. is_from key e.0 ≡ true) es
none_less key [] h = tt
none_less key (e ∷ es) h = (not_less_key (key_cmp e.0 key) (h 0 e (omega arith)), none_less key es (λ k d lt. h (suc k) d (omega arith)))

pub is_place : {X : Type 0} (key : List ℕ) (at : ℕ) (es : Entries X) → at ≤ length es → IsPartitionPoint (λ e. is_less key e ≡ true) (λ e. is_less key e ≡ false) es at → IsPlace key at es
is_place key zero es inside point = none_less key es (λ k d lt. point.1 k d (omega arith) lt)
is_place key (suc at) [] inside point = absurd (omega arith)
is_place key (suc at) (e ∷ es) inside point = (
  less_key (key_cmp e.0 key) (point.0 0 e (omega arith) (omega arith)),
  is_place key at es (omega arith) (λ k d le lt. point.0 (suc k) d (omega arith) (omega arith), λ k d le lt. point.1 (suc k) d (omega arith) (omega arith)),
)

-- ---- what a place says of its list

pub place_inside : {X : Type 0} (key : List ℕ) (at : ℕ) (es : Entries X) → IsPlace key at es → at ≤ length es
place_inside key zero es p = omega arith
place_inside key (suc at) [] p = absurd p
place_inside key (suc at) (e ∷ es) p = let rest = place_inside key at es p.1 in omega arith

less_is_out : (key k : List ℕ) → key_cmp k key ≡ Less → is_from key k ≡ false
less_is_out key k h = ap is_not_less h

all_from_key : {X : Type 0} (key : List ℕ) (es : Entries X) → AllByRecursion (λ e. is_from key e.0 ≡ true) es → entries_where (is_from key) es ≡ es
all_from_key key [] p = refl
all_from_key {X} key (e ∷ es) p = rw p.0 (ap (λ (zs : Entries X). e ∷ zs) (all_from_key key es p.1))

-- what is from a key on stands from its place on
pub entries_from_place : {X : Type 0} (key : List ℕ) (at : ℕ) (es : Entries X) → IsPlace key at es → entries_where (is_from key) es ≡ drop at es
entries_from_place key zero es p = all_from_key key es p
entries_from_place key (suc at) [] p = absurd p
entries_from_place key (suc at) (e ∷ es) p = rw (less_is_out key e.0 p.0) (entries_from_place key at es p.1)

-- what a scan from a key finds stands at its place
pub first_place : {X : Type 0} (key : List ℕ) (at : ℕ) (es : Entries X) → IsPlace key at es → first_from key es ≡ slice_get es at
first_place key zero [] p = refl
first_place key zero (e ∷ es) p = rw p.0 refl
first_place key (suc at) [] p = absurd p
first_place key (suc at) (e ∷ es) p = rw (less_is_out key e.0 p.0) (first_place key at es p.1)

pub key_inside : {X : Type 0} (key : List ℕ) (at : ℕ) (es : Entries X) → has_key_at key at es ≡ true → at < length es
key_inside key at [] h = cc
key_inside key zero (e ∷ es) h = omega arith
key_inside key (suc at) (e ∷ es) h = let rest = key_inside key at es h in omega arith

pub there_key : {X : Type 0} (key : List ℕ) (at : ℕ) (es : Entries X) (e : List ℕ × X) → has_key_at key at es ≡ true → slice_get es at ≡ Some e → e.0 ≡ key
there_key key at es e h is = same_key e.0 key (is_equal (key_cmp e.0 key) (is_eq-slice_cmp e.0 key ∙ subst (λ (z : Option _). has_key key z ≡ true) is h))
  where
    is_equal : (o : Ordering) → is_eq o ≡ true → o ≡ Equal
    is_equal Less h = cc
    is_equal Equal h = refl
    is_equal Greater h = cc

pub equal_keys : (a b : List ℕ) → key_cmp a b ≡ Equal → bytes_eq a b ≡ true
equal_keys a b h = sym (is_eq-slice_cmp a b) ∙ ap is_eq h

pub other_keys : (a b : List ℕ) → key_cmp a b ≡ Greater → bytes_eq a b ≡ false
other_keys a b h = sym (is_eq-slice_cmp a b) ∙ ap is_eq h

pub equal_back : (a b : List ℕ) → key_cmp a b ≡ Equal → key_cmp b a ≡ Equal
equal_back a b h = subst (λ (z : List ℕ). key_cmp b z ≡ Equal) (sym (same_key a b h)) (itself b)

-- the entry of a key stands at its place, or there is none
pub entry_place : {X : Type 0} (key : List ℕ) (at : ℕ) (es : Entries X) → IsOrdered es → IsPlace key at es → entry_at key es ≡ (if has_key_at key at es then slice_get es at else None)
entry_place key zero [] o p = refl
entry_place key (suc at) [] o p = absurd p
entry_place {X} key (suc at) (e ∷ es) o p = rw (after e.0 key p.0) (entry_place key at es o.1 p.1)
entry_place {X} key zero (e ∷ es) o p = go (key_cmp e.0 key) refl
  where
    go : (r : Ordering) → r ≡ key_cmp e.0 key → entry_at key (e ∷ es) ≡ (if bytes_eq e.0 key then Some e else None)
    go Less c = let wrong : false ≡ true = ap is_not_less c ∙ p.0 in cc
    go Equal c = rw (equal_keys e.0 key (sym c)) (rw (equal_back e.0 key (sym c)) (ap (λ (k : List ℕ). Some (k, e.1)) (sym (same_key e.0 key (sym c)))))
    go Greater c =
        let less : key_cmp key e.0 ≡ Less = reversed e.0 key (sym c) in
        rw (other_keys e.0 key (sym c)) (ap (entry_of key) (lookup-before key (e ∷ es) (less, before_trans key e.0 es less o.0)))

-- a put at the place of a key
pub put_place : {X : Type 0} (key : List ℕ) (value : X) (at : ℕ) (es : Entries X) → IsPlace key at es → changed key (Some value) es ≡ (if has_key_at key at es then set es at (key, value) else insert es at (key, value))
put_place key value zero [] p = refl
put_place key value (suc at) [] p = absurd p
put_place {X} key value (suc at) (e ∷ es) p = rw (after e.0 key p.0) (ap (λ (zs : Entries X). e ∷ zs) (put_place key value at es p.1) ∙ cases (has_key_at key at es))
  where
    cases : (b : Bool) → e ∷ (if b then set es at (key, value) else insert es at (key, value)) ≡ (if b then e ∷ set es at (key, value) else e ∷ insert es at (key, value))
    cases true = refl
    cases false = refl
put_place {X} key value zero (e ∷ es) p = go (key_cmp e.0 key) refl
  where
    go : (r : Ordering) → r ≡ key_cmp e.0 key → changed key (Some value) (e ∷ es) ≡ (if bytes_eq e.0 key then (key, value) ∷ es else (key, value) ∷ e ∷ es)
    go Less c = let wrong : false ≡ true = ap is_not_less c ∙ p.0 in cc
    go Equal c = rw (equal_keys e.0 key (sym c)) (rw (equal_back e.0 key (sym c)) refl)
    go Greater c = rw (other_keys e.0 key (sym c)) (rw (reversed e.0 key (sym c)) refl)

-- a removal at the place of a key
pub removed_place : {X : Type 0} (key : List ℕ) (at : ℕ) (es : Entries X) → IsPlace key at es → changed key None es ≡ (if has_key_at key at es then remove es at else es)
removed_place key zero [] p = refl
removed_place key (suc at) [] p = absurd p
removed_place {X} key (suc at) (e ∷ es) p = rw (after e.0 key p.0) (ap (λ (zs : Entries X). e ∷ zs) (removed_place key at es p.1) ∙ cases (has_key_at key at es))
  where
    cases : (b : Bool) → e ∷ (if b then remove es at else es) ≡ (if b then e ∷ remove es at else e ∷ es)
    cases true = refl
    cases false = refl
removed_place {X} key zero (e ∷ es) p = go (key_cmp e.0 key) refl
  where
    go : (r : Ordering) → r ≡ key_cmp e.0 key → changed key None (e ∷ es) ≡ (if bytes_eq e.0 key then es else e ∷ es)
    go Less c = let wrong : false ≡ true = ap is_not_less c ∙ p.0 in cc
    go Equal c = rw (equal_keys e.0 key (sym c)) (rw (equal_back e.0 key (sym c)) refl)
    go Greater c = rw (other_keys e.0 key (sym c)) (rw (reversed e.0 key (sym c)) refl)

-- ---- the same, where it is known whether the key is there

pub put_there : {X : Type 0} (key : List ℕ) (value : X) (at : ℕ) (es : Entries X) → IsPlace key at es → has_key_at key at es ≡ true → set es at (key, value) ≡ changed key (Some value) es
put_there key value at es p h = sym (put_place key value at es p ∙ rw h refl)

pub put_new : {X : Type 0} (key : List ℕ) (value : X) (at : ℕ) (es : Entries X) → IsPlace key at es → has_key_at key at es ≡ false → insert es at (key, value) ≡ changed key (Some value) es
put_new key value at es p h = sym (put_place key value at es p ∙ rw h refl)

pub removed_there : {X : Type 0} (key : List ℕ) (at : ℕ) (es : Entries X) → IsPlace key at es → has_key_at key at es ≡ true → remove es at ≡ changed key None es
removed_there key at es p h = sym (removed_place key at es p ∙ rw h refl)

pub removed_new : {X : Type 0} (key : List ℕ) (at : ℕ) (es : Entries X) → IsPlace key at es → has_key_at key at es ≡ false → es ≡ changed key None es
removed_new key at es p h = sym (removed_place key at es p ∙ rw h refl)

pub entry_there : {X : Type 0} (key : List ℕ) (at : ℕ) (es : Entries X) → IsOrdered es → IsPlace key at es → has_key_at key at es ≡ true → entry_at key es ≡ slice_get es at
entry_there key at es o p h = entry_place key at es o p ∙ rw h refl

pub entry_nowhere : {X : Type 0} (key : List ℕ) (at : ℕ) (es : Entries X) → IsOrdered es → IsPlace key at es → has_key_at key at es ≡ false → entry_at key es ≡ None
entry_nowhere key at es o p h = entry_place key at es o p ∙ rw h refl

-- a key that has a value has an entry at its place
pub not_nowhere : {X Y : Type 0} (key : List ℕ) (at : ℕ) (es : Entries X) → IsOrdered es → IsPlace key at es → has_key_at key at es ≡ false → IsSome (lookup key es) → Y
not_nowhere {X} {Y} key at es o p h some = go (lookup key es) (entry_nowhere key at es o p h) some
  where
    go : (v : Option X) → entry_of key v ≡ None → IsSome v → Y
    go None e s = let wrong : false ≡ true = s in cc
    go (Some x) e s = cc

-- one of two that are in order
pub either_ordered : {X : Type 0} (b : Bool) (new es : Entries X) → IsOrdered new → IsOrdered es → IsOrdered (if b then new else es)
either_ordered true new es n o = n
either_ordered false new es n o = o

-- a batch with one change more
pub batch_changed : (key : List ℕ) (value : Option (List ℕ)) (cs : Changes) → IsBatch cs → IsChangeSize (key, value) → IsBatch (changed key (Some value) cs)
batch_changed key value cs b size = record { ordered = ordered_changed key (Some value) cs b.ordered; sizes = all_changed IsChangeSize key value cs size b.sizes }

-- all from a place on
pub all_taken : {X : Type 0} (at : ℕ) (es : List X) → take (length es - at) (drop at es) ≡ drop at es
all_taken at es = take_all (length es - at) (drop at es) (omega (arith, length-drop at es))
