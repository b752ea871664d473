-- Entries of a store in memory, of which those with no value stand for no record.
use Rattle.std.proofs.Common.{◌≡◌, ℕ, zero, suc, ◌+◌, ◌<◌, List, [], ◌∷◌, ◌++◌, Option, Some, None, Result, Ok, Err, OnOk, is_err, false, is_some, IsSome, Bor, refl, ap, sym, ◌∙◌, subst, arith, length, get_or, take, add-one}
use Rattle.std.specs.Prelude.{MatchOption}
use Rattle.std.specs.Option.{option_copied}
use Rattle.std.specs.declared.cmp.Ordering.{Ordering}
use Rattle.std.specs.declared.cmp.Ordering.TheVariants.{Less, Equal, Greater}
use Rattle.store.specs.Records.{Changes, Records, key_cmp, IsBefore, IsOrdered, lookup, entry_of, entry_at, changed, applied, value_under}
use Rattle.store.specs.Held.{AreHeld}
use Rattle.store.proofs.Changes.{same_key, itself, lookup-applied, lookup-changed_any, replaced_by, same_values, ordered_applied, ordered_changed, put_applied}

-- where a key has no record, its removal changes nothing
removed_nothing : (key : List ℕ) (rs : Records) → IsOrdered rs → lookup key rs ≡ None → changed key None rs ≡ rs
removed_nothing key rs o none = same_values (changed key None rs) rs (ordered_changed key None rs o) o at
  where
    cases : (k : List ℕ) (r : Ordering) → r ≡ key_cmp k key → replaced_by r None (lookup k rs) ≡ lookup k rs
    cases k Less c = refl
    cases k Equal c = sym (subst (λ (z : List ℕ). lookup z rs ≡ None) (sym (same_key k key (sym c))) none)
    cases k Greater c = refl

    at : (k : List ℕ) → lookup k (changed key None rs) ≡ lookup k rs
    at k = lookup-changed_any k key None rs o ∙ cases k (key_cmp k key) refl

-- an entry with no value stands for no record
pub empty_put : (key : List ℕ) (es : Changes) → IsOrdered es → lookup key es ≡ None → applied (changed key (Some None) es) [] ≡ applied es []
empty_put key es o none =
    put_applied key None es [] o tt
    ∙ removed_nothing key (applied es []) (ordered_applied es [] tt) (lookup-applied key es [] tt ∙ ap (λ (v : Option (Option (List ℕ))). value_under v None) none)

-- an entry that is removed is a record that is removed
pub removal_made : (key : List ℕ) (es : Changes) → IsOrdered es → applied (changed key None es) [] ≡ changed key None (applied es [])
removal_made key es o =
    same_values (applied (changed key None es) []) (changed key None (applied es [])) (ordered_applied (changed key None es) [] tt) (ordered_changed key None (applied es []) (ordered_applied es [] tt)) at
  where
    cases : (r : Ordering) (old : Option (Option (List ℕ))) → value_under (replaced_by r None old) None ≡ replaced_by r None (value_under old None)
    cases Less old = refl
    cases Equal old = refl
    cases Greater old = refl

    at : (k : List ℕ) → lookup k (applied (changed key None es) []) ≡ lookup k (changed key None (applied es []))
    at k =
        lookup-applied k (changed key None es) [] tt
        ∙ ap (λ (v : Option (Option (List ℕ))). value_under v None) (lookup-changed_any k key None es o)
        ∙ cases (key_cmp k key) (lookup k es)
        ∙ ap (λ (v : Option (List ℕ)). replaced_by (key_cmp k key) None v) (sym (lookup-applied k es [] tt))
        ∙ sym (lookup-changed_any k key None (applied es []) (ordered_applied es [] tt))

pub empty_removed : (key : List ℕ) (es : Changes) → IsOrdered es → lookup key es ≡ Some None → applied (changed key None es) [] ≡ applied es []
empty_removed key es o empty =
    removal_made key es o
    ∙ removed_nothing key (applied es []) (ordered_applied es [] tt) (lookup-applied key es [] tt ∙ ap (λ (v : Option (Option (List ℕ))). value_under v None) empty)

-- ---- values by entries

pub no_value : {X : Type 0} (key : List ℕ) (v : Option X) → entry_of key v ≡ None → v ≡ None
no_value key None h = refl
no_value key (Some x) h = cc

pub the_value : {X : Type 0} (key k : List ℕ) (v : Option X) (x : X) → entry_of key v ≡ Some (k, x) → v ≡ Some x
the_value key k None x h = cc
the_value {X} key k (Some y) x h = ap (λ (z : X). Some z) (ap there h)
  where
    there : Option (List ℕ × X) → X
    there None = y
    there (Some e) = e.1

-- ---- what is read of an entry

-- an entry that is not found
pub not_found : (v : Option (Option (List ℕ))) → is_some v ≡ false → v ≡ None
not_found None none = refl
not_found (Some x) none = cc

-- a change that puts no value
pub not_put : (v : Option (List ℕ)) → is_some v ≡ false → v ≡ None
not_put None none = refl
not_put (Some x) none = cc

-- a value that is not there
pub none_there : (r : Option (Bor (List ℕ))) (v : Option (List ℕ)) → is_some r ≡ false → MatchOption r (v ≡ None) (λ value. v ≡ Some value.now) → v ≡ None
none_there None v none is = is
none_there (Some x) v none is = cc

-- a value that is lent
pub value_lent : (r : Option (Bor (List ℕ))) (v : Option (List ℕ)) → MatchOption r (v ≡ None) (λ value. v ≡ Some value.now) → option_copied r ≡ v
value_lent None v is = sym is
value_lent (Some x) v is = sym is

-- the value of a key that has an entry
pub value_there : (key : List ℕ) (es : Changes) (c : List ℕ × Option (List ℕ)) → Some c ≡ entry_at key es → lookup key (applied es []) ≡ c.1
value_there key es c found = lookup-applied key es [] tt ∙ ap (λ (v : Option (Option (List ℕ))). value_under v None) (the_value key c.0 (lookup key es) c.1 (sym found))

-- and of one that has none
pub value_nowhere : (key : List ℕ) (es : Changes) → None ≡ entry_at key es → lookup key (applied es []) ≡ None
value_nowhere key es none = lookup-applied key es [] tt ∙ ap (λ (v : Option (Option (List ℕ))). value_under v None) (no_value key (lookup key es) (sym none))

-- ---- keys that have entries

pub put_there : (key : List ℕ) (value : Option (List ℕ)) (es : Changes) → IsOrdered es → IsSome (lookup key (changed key (Some value) es))
put_there key value es o = rw (lookup-changed_any key key (Some value) es o) (rw (itself key) refl)

pub put_keeps : (k key : List ℕ) (value : Option (List ℕ)) (es : Changes) → IsOrdered es → IsSome (lookup k es) → IsSome (lookup k (changed key (Some value) es))
put_keeps k key value es o some = rw (lookup-changed_any k key (Some value) es o) (cases (key_cmp k key))
  where
    cases : (r : Ordering) → IsSome (replaced_by r (Some value) (lookup k es))
    cases Less = some
    cases Equal = refl
    cases Greater = some

-- a change of one key leaves those before it
pub others_stay : (k key : List ℕ) (value : Option (Option (List ℕ))) (es : Changes) → IsOrdered es → key_cmp k key ≡ Less → lookup k (changed key value es) ≡ lookup k es
others_stay k key value es o less = lookup-changed_any k key value es o ∙ ap (λ (r : Ordering). replaced_by r value (lookup k es)) less

before_last : (xs : Changes) (c : List ℕ × Option (List ℕ)) (k : List ℕ) → IsBefore k (xs ++ (c ∷ [])) → key_cmp k c.0 ≡ Less
before_last [] c k b = b.0
before_last (x ∷ xs) c k b = before_last xs c k b.1

-- where the last of changes is made, the others have entries still
pub others_held : (cs : Changes) (c : List ℕ × Option (List ℕ)) (es new : Changes) → IsOrdered (cs ++ (c ∷ [])) → AreHeld (cs ++ (c ∷ [])) es → ((k : List ℕ) → key_cmp k c.0 ≡ Less → lookup k new ≡ lookup k es) → AreHeld cs new
others_held [] c es new o held stay = tt
others_held (d ∷ cs) c es new o held stay = (
  λ put. subst (λ (v : Option (Option (List ℕ))). IsSome v) (sym (stay d.0 (before_last cs c d.0 o.0))) (held.0 put),
  others_held cs c es new o.1 held.1 stay,
)

-- and the last has one
pub last_held : (cs : Changes) (c : List ℕ × Option (List ℕ)) (es : Changes) → AreHeld (cs ++ (c ∷ [])) es → IsSome c.1 → IsSome (lookup c.0 es)
last_held [] c es held = held.0
last_held (d ∷ cs) c es held = last_held cs c es held.1

pub all_kept : (cs es new : Changes) → ((k : List ℕ) → IsSome (lookup k es) → IsSome (lookup k new)) → AreHeld cs es → AreHeld cs new
all_kept [] es new kept held = tt
all_kept (c ∷ cs) es new kept held = (λ put. kept c.0 (held.0 put), all_kept cs es new kept held.1)

pub both_held : (cs ds es : Changes) → AreHeld cs es → AreHeld ds es → AreHeld (cs ++ ds) es
both_held [] ds es first second = second
both_held (c ∷ cs) ds es first second = (first.0, both_held cs ds es first.1 second)

taken_held : (cs es : Changes) (i : ℕ) (d : List ℕ × Option (List ℕ)) → i < length cs → AreHeld (take i cs) es → (IsSome (get_or cs i d).1 → IsSome (lookup (get_or cs i d).0 es)) → AreHeld (take (suc i) cs) es
taken_held [] es i d inside held there = absurd (omega arith)
taken_held (c ∷ cs) es zero d inside held there = (there, tt)
taken_held (c ∷ cs) es (suc i) d inside held there = (held.0, taken_held cs es i d (omega arith) held.1 there)

-- one change more has an entry if it puts a value
pub one_held : (cs es new : Changes) (i : ℕ) (d : List ℕ × Option (List ℕ)) → i < length cs → AreHeld (take i cs) es → ((k : List ℕ) → IsSome (lookup k es) → IsSome (lookup k new)) → (IsSome (get_or cs i d).1 → IsSome (lookup (get_or cs i d).0 new)) → AreHeld (take (i + 1) cs) new
one_held cs es new i d inside held kept there =
    subst (λ (n : ℕ). AreHeld (take n cs) new) (sym (add-one i)) (taken_held cs new i d inside (all_kept (take i cs) es new kept held) there)

pub not_err : {T E P : Type 0} (r : Result T E) → is_err r ≡ false → OnOk r P → P
not_err (Ok x) h p = p
not_err (Err e) h p = cc
