-- Counts of the records of a span under lists of changes.
use Rattle.std.proofs.Common.{◌≡◌, ◌<◌, ◌≤◌, ℕ, Bool, true, false, ◌&&◌, if◌then◌else◌, List, [], ◌∷◌, ◌+◌, Option, Some, None, length, refl, ap, sym, ◌∙◌, subst, arith}
use Rattle.std.proofs.lemmas.Bool.{false≢true}
use Rattle.std.specs.declared.cmp.Ordering.{Ordering}
use Rattle.std.specs.declared.cmp.Ordering.TheVariants.{Less, Equal, Greater}
use Rattle.store.specs.Records.{Entries, Record, Records, Changes, IsOrdered, applied, entries_where, found_by, is_from, key_cmp, lookup}
use Rattle.store.specs.Walks.{count_to, is_within, span}
use Rattle.store.proofs.Changes.{entries_where-applied, itself, ordered_applied, reversed, same_key}
use Rattle.store.proofs.Walking.{none_within}
use Rattle.transactions.specs.Views.{applied_all, latest, or_earlier, HasLeast, IsLeast}

-- ---- counts up to a bound

-- the first entry is one of them
pub one_less : (records left : Records) (e : Record) (later : Records) (count : ℕ) → length records ≡ count + length left → left ≡ e ∷ later → length records ≡ count + 1 + length later
one_less records left e later count is first = omega (arith, is, ap (λ (es : Records). length es) first)

-- none is left to count
pub ends_here : (records left : Records) (count most : ℕ) → length records ≡ count + length left → left ≡ [] → count < most → count ≡ count_to most records
ends_here records left count most is none less = omega (arith, is, ap (λ (es : Records). length es) none, less)

-- as many as are wanted were counted
pub counted_most : (records left : Records) (count most : ℕ) → length records ≡ count + length left → most ≤ count → most ≡ count_to most records
counted_most records left count most is many = omega (arith, is, many)

-- ---- spans of which no list says anything

both : {X : Type 0} (p q : List ℕ → Bool) (es : Entries X) → entries_where q (entries_where p es) ≡ entries_where (λ key. p key && q key) es
both {X} p q [] = refl
both {X} p q (e ∷ es) = go (p e.0) refl (both p q es)
  where
    go : (b : Bool) → p e.0 ≡ b → entries_where q (entries_where p es) ≡ entries_where (λ key. p key && q key) es → entries_where q (entries_where p (e ∷ es)) ≡ entries_where (λ key. p key && q key) (e ∷ es)
    go true is later = rw is (ap (λ (xs : Entries X). if q e.0 then e ∷ xs else xs) later)
    go false is later = rw is later

no_value : {X : Type 0} (o : Ordering) (x : X) (later : Option X) → found_by o x later ≡ None → later ≡ None
no_value Less x later is = is
no_value Equal x later is = cc
no_value Greater x later is = is

none_pass : {X : Type 0} (q : List ℕ → Bool) (es : Entries X) → ((key : List ℕ) → q key ≡ true → lookup key es ≡ None) → entries_where q es ≡ []
none_pass {X} q [] none = refl
none_pass {X} q (e ∷ es) none = go (q e.0) refl (none_pass q es (λ key passes. no_value (key_cmp key e.0) e.1 (lookup key es) (none key passes)))
  where
    there : lookup e.0 (e ∷ es) ≡ Some e.1
    there = ap (λ (o : Ordering). found_by o e.1 (lookup e.0 es)) (itself e.0)

    bad : Some e.1 ≡ None → ⊥
    bad is = cc

    go : (b : Bool) → q e.0 ≡ b → entries_where q es ≡ [] → entries_where q (e ∷ es) ≡ []
    go true is later = absurd (bad (sym there ∙ none e.0 is))
    go false is later = rw is later

neither : (later here : Option (Option (List ℕ))) → or_earlier later here ≡ None → (later ≡ None) × (here ≡ None)
neither None here is = (refl, is)
neither (Some value) here is = cc

untouched : (q : List ℕ → Bool) (lists : List Changes) (es : Records) → IsOrdered es → ((key : List ℕ) → q key ≡ true → latest key lists ≡ None) → entries_where q (applied_all lists es) ≡ entries_where q es
untouched q [] es rise none = refl
untouched q (cs ∷ lists) es rise none =
    untouched q lists (applied cs es) (ordered_applied cs es rise) (λ key passes. (neither (latest key lists) (lookup key cs) (none key passes)).0)
    ∙ (entries_where-applied q cs es rise
    ∙ ap (λ (changes : Changes). applied changes (entries_where q es)) (none_pass q cs (λ key passes. (neither (latest key lists) (lookup key cs) (none key passes)).1)))

and_is : (a b : Bool) → (a && b) ≡ true → (a ≡ true) × (b ≡ true)
and_is true b is = (refl, is)
and_is false b is = cc

span_same : (start stop : List ℕ) (lists : List Changes) (es : Records) → IsOrdered es → ((key : List ℕ) → is_from start key ≡ true → is_within stop key ≡ true → latest key lists ≡ None) → span start stop (applied_all lists es) ≡ span start stop es
span_same start stop lists es rise none =
    both (is_from start) (is_within stop) (applied_all lists es)
    ∙ (untouched (λ key. is_from start key && is_within stop key) lists es rise (λ key passes. let is = and_is (is_from start key) (is_within stop key) passes in none key is.0 is.1)
    ∙ sym (both (is_from start) (is_within stop) es))

-- no list names a key from the start on
pub no_change : (start stop : List ℕ) (lists : List Changes) (least : Option (List ℕ × Option (List ℕ))) → least ≡ None → HasLeast start least lists → (es : Records) → IsOrdered es → span start stop (applied_all lists es) ≡ span start stop es
no_change start stop lists least is none es rise =
    let nothing = subst (λ (o : Option (List ℕ × Option (List ℕ))). HasLeast start o lists) is none in
    span_same start stop lists es rise (λ key from within. nothing key from)

-- the first that one names is past the stop
pub change_past : (start stop : List ℕ) (lists : List Changes) (least : Option (List ℕ × Option (List ℕ))) (change : List ℕ × Option (List ℕ)) → least ≡ Some change → HasLeast start least lists → is_within stop change.0 ≡ false
    → (es : Records) → IsOrdered es → span start stop (applied_all lists es) ≡ span start stop es
change_past start stop lists least change is has past es rise =
    span_same start stop lists es rise (λ key from within. first.before key from (go key within (key_cmp key change.0) refl))
  where
    first : IsLeast start change lists
    first = subst (λ (o : Option (List ℕ × Option (List ℕ))). HasLeast start o lists) is has

    some : {e : Record} → e ∷ [] ≡ [] → ⊥
    some is = cc

    go : (key : List ℕ) → is_within stop key ≡ true → (o : Ordering) → key_cmp key change.0 ≡ o → key_cmp key change.0 ≡ Less
    go key within Less o = o
    go key within Equal o = absurd (false≢true (sym past ∙ (ap (is_within stop) (sym (same_key key change.0 o)) ∙ within)))
    go key within Greater o = absurd (some (sym (ap (λ (b : Bool). if b then (key, []) ∷ [] else []) within) ∙ none_within stop change.0 ((key, []) ∷ []) past (reversed key change.0 o, tt)))
