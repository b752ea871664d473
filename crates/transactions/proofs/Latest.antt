-- What lists of changes say of keys.
use Rattle.std.proofs.Common.{◌≡◌, ℕ, ◌<◌, ◌≤◌, ◌+◌, ◌-◌, List, [], ◌∷◌, ◌++◌, Option, Some, None, Result, Ok, Err, OnErr, length, take, drop, get_or, set, refl, ap, sym, ◌∙◌, arith}
use Rattle.std.proofs.lemmas.List.{drop_more, take-append-drop}
use Rattle.store.specs.Records.{Entries, Records, Changes, IsOrdered, lookup, entry_at, entry_of, applied, value_under}
use Rattle.store.proofs.Changes.{ordered_applied, lookup-applied}
use Rattle.transactions.specs.Views.{applied_all, latest, or_earlier}

-- the value at a key under lists of changes
pub lookup-applied_all : (key : List ℕ) (lists : List Changes) (es : Records) → IsOrdered es → lookup key (applied_all lists es) ≡ value_under (latest key lists) (lookup key es)
lookup-applied_all key [] es rise = refl
lookup-applied_all key (cs ∷ lists) es rise =
    lookup-applied_all key lists (applied cs es) (ordered_applied cs es rise)
    ∙ ap (value_under (latest key lists)) (lookup-applied key cs es rise)
    ∙ joined (latest key lists)
  where
    joined : (word : Option (Option (List ℕ))) → value_under word (value_under (lookup key cs) (lookup key es)) ≡ value_under (or_earlier word (lookup key cs)) (lookup key es)
    joined None = refl
    joined (Some value) = refl

-- what a further list says decides
pub latest-append : (key : List ℕ) (lists more : List Changes) → latest key (lists ++ more) ≡ or_earlier (latest key more) (latest key lists)
latest-append key [] more = none (latest key more)
  where
    none : (word : Option (Option (List ℕ))) → word ≡ or_earlier word None
    none None = refl
    none (Some value) = refl
latest-append key (cs ∷ lists) more = ap (λ (word : Option (Option (List ℕ))). or_earlier word (lookup key cs)) (latest-append key lists more) ∙ joined (latest key more)
  where
    joined : (word : Option (Option (List ℕ))) → or_earlier (or_earlier word (latest key lists)) (lookup key cs) ≡ or_earlier word (or_earlier (latest key lists) (lookup key cs))
    joined None = refl
    joined (Some value) = refl

-- ---- lists from the last one on

-- the value of an entry, if there is one
abbrev value_in : {X : Type 0} → Option (List ℕ × X) → Option X
value_in None = None
value_in (Some e) = Some e.1

-- the value that an entry has
value_of_entry : {X : Type 0} (key : List ℕ) (es : Entries X) (found : Option (List ℕ × X)) → found ≡ entry_at key es → lookup key es ≡ value_in found
value_of_entry {X} key es found is = go (lookup key es) ∙ sym (ap value_in is)
  where
    go : (value : Option X) → value ≡ value_in (entry_of key value)
    go None = refl
    go (Some value) = refl

-- one list more from behind
pub one_more_behind : (lists : List Changes) (at : ℕ) (item : Changes) → 0 < at → at ≤ length lists → item ≡ get_or lists (at - 1) item → drop (at - 1) lists ≡ item ∷ drop at lists
one_more_behind lists at item some inside is =
    let next : at - 1 + 1 ≡ at = omega arith in
    drop_more lists (at - 1) item (omega (arith, some, inside))
    ∙ ap (λ (n : ℕ). get_or lists (at - 1) item ∷ drop n lists) next
    ∙ ap (λ (cs : Changes). cs ∷ drop at lists) (sym is)

-- a list that says nothing, before others that say nothing
pub nothing_more : (key : List ℕ) (lists : List Changes) (at : ℕ) (item : Changes) → drop (at - 1) lists ≡ item ∷ drop at lists → latest key (drop at lists) ≡ None → None ≡ entry_at key item
    → latest key (drop (at - 1) lists) ≡ None
nothing_more key lists at item front none missing =
    ap (latest key) front ∙ rw none (value_of_entry key item None missing)

-- a list that has a change, before others that say nothing
pub change_found : (key : List ℕ) (lists : List Changes) (at : ℕ) (item : Changes) (change : List ℕ × Option (List ℕ)) → drop (at - 1) lists ≡ item ∷ drop at lists → latest key (drop at lists) ≡ None
    → Some change ≡ entry_at key item → latest key lists ≡ Some change.1
change_found key lists at item change front none found =
    let here : latest key (drop (at - 1) lists) ≡ Some change.1 = ap (latest key) front ∙ rw none (value_of_entry key item (Some change) found) in
    ap (latest key) (sym (take-append-drop (at - 1) lists)) ∙ latest-append key (take (at - 1) lists) (drop (at - 1) lists) ∙ rw here refl

-- the word of the only list
pub only_latest : (lists : List Changes) (list : Changes) (key : List ℕ) → length lists ≡ 1 → list ≡ get_or lists 0 list → lookup key list ≡ latest key lists
only_latest [] list key one is = absurd (omega (arith, one))
only_latest (cs ∷ []) list key one is = ap (lookup key) is
only_latest (cs ∷ ds ∷ lists) list key one is = absurd (omega (arith, one))

-- and the lists where it was put back
pub only_back : (lists : List Changes) (list new : Changes) → length lists ≡ 1 → list ≡ get_or lists 0 list → new ≡ list → set lists 0 new ≡ lists
only_back [] list new one is same = absurd (omega (arith, one))
only_back (cs ∷ lists) list new one is same = ap (λ (x : Changes). x ∷ lists) (same ∙ is)

-- where a fault gives it back
pub only_given_back : {T E : Type 0} (r : Result T E) (lists own : List Changes) (list new : Changes) → length lists ≡ 1 → list ≡ get_or lists 0 list → lists ≡ own → OnErr r (new ≡ list) → OnErr r (set lists 0 new ≡ own)
only_given_back (Ok x) lists own list new one is whole back = tt
only_given_back (Err e) lists own list new one is whole back = only_back lists list new one is back ∙ whole
