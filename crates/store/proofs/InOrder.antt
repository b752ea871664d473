-- Changes that are made one after the other, from the last key to the first; and places of keys.
use Rattle.std.proofs.Common.{◌≡◌, ℕ, zero, suc, true, false, List, [], ◌∷◌, ◌++◌, Option, refl, sym, ap, ◌∙◌}
use Rattle.std.specs.List.{AllByRecursion}
use Rattle.std.specs.declared.cmp.Ordering.{Ordering}
use Rattle.std.specs.declared.cmp.Ordering.TheVariants.{Less, Equal, Greater}
use Rattle.store.specs.Records.{Entries, Changes, Records, key_cmp, is_from, is_not_less, IsBefore, IsOrdered, changed, applied}
use Rattle.store.specs.Place.{IsPlace, has_lesser_key_at}
use Rattle.store.proofs.Changes.{key_trans, applied-append}
use Rattle.store.proofs.Places.{less_key, not_less_key}

pub before_start : {X : Type 0} (key : List ℕ) (xs ys : Entries X) → IsBefore key (xs ++ ys) → IsBefore key xs
before_start key [] ys b = tt
before_start key (x ∷ xs) ys b = (b.0, before_start key xs ys b.1)

pub start_ordered : {X : Type 0} (xs ys : Entries X) → IsOrdered (xs ++ ys) → IsOrdered xs
start_ordered [] ys o = tt
start_ordered (e ∷ xs) ys o = (before_start e.0 xs ys o.0, start_ordered xs ys o.1)

-- the last change is made of all, and those before it are left
pub one_made : (changes left : Changes) (c : List ℕ × Option (List ℕ)) (old new all : Records) → changes ≡ left ++ (c ∷ []) → new ≡ changed c.0 c.1 old → applied changes old ≡ all → applied left new ≡ all
one_made changes left c old new all is made whole =
    ap (λ (es : Records). applied left es) made ∙ sym (applied-append left (c ∷ []) old) ∙ ap (λ (cs : Changes). applied cs old) (sym is) ∙ whole

-- ---- a place, known by its neighbours

all_from : {X : Type 0} (key : List ℕ) (k : List ℕ) (es : Entries X) → is_from key k ≡ true → IsBefore k es → AllByRecursion (λ e. is_from key e.0 ≡ true) es
all_from key k [] h b = tt
all_from key k (e ∷ es) h b = (go (key_cmp e.0 key) refl, all_from key k es h b.1)
  where
    go : (r : Ordering) → r ≡ key_cmp e.0 key → is_from key e.0 ≡ true
    go Less c = let wrong : is_not_less Less ≡ true = sym (ap is_not_less (key_trans k e.0 key b.0 (sym c))) ∙ h in cc
    go Equal c = ap is_not_less (sym c)
    go Greater c = ap is_not_less (sym c)

-- no entry is before it, and the one at it is not less than the key
pub place_at_start : {X : Type 0} (key : List ℕ) (es : Entries X) → IsOrdered es → has_lesser_key_at key zero es ≡ false → IsPlace key zero es
place_at_start key [] o h = tt
place_at_start key (e ∷ es) o h =
    let from : is_from key e.0 ≡ true = not_less_key (key_cmp e.0 key) h in
    (from, all_from key e.0 es from o.0)

-- the entry before it is less, and the one at it is not
pub place_after_lesser : {X : Type 0} (key : List ℕ) (at : ℕ) (es : Entries X) → IsOrdered es → has_lesser_key_at key at es ≡ true → has_lesser_key_at key (suc at) es ≡ false → IsPlace key (suc at) es
place_after_lesser key at [] o less h = cc
place_after_lesser key zero (e ∷ es) o less h = (less_key (key_cmp e.0 key) less, place_at_start key es o.1 h)
place_after_lesser {X} key (suc at) (e ∷ es) o less h = go es o (place_after_lesser key at es o.1 less h)
  where
    go : (fs : Entries X) → IsOrdered (e ∷ fs) → IsPlace key (suc at) fs → IsPlace key (suc (suc at)) (e ∷ fs)
    go [] rise p = absurd p
    go (f ∷ fs) rise p = (key_trans e.0 f.0 key rise.0.0 p.0, p)
