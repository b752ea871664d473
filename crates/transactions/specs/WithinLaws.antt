-- A walk between the records of a map and lists of changes, up to a stop.
use Rattle.std.proofs.Common.{◌≡◌, ℕ, Bool, true, false, if◌then◌else◌, List, [], ◌∷◌, Option, Some, None, refl, ap, sym, ◌∙◌, subst}
use Rattle.std.specs.Prelude.{◌≢◌}
use Rattle.std.proofs.lemmas.Bool.{false≢true}
use Rattle.std.specs.declared.cmp.Ordering.{Ordering}
use Rattle.std.specs.declared.cmp.Ordering.TheVariants.{Less, Equal, Greater}
use Rattle.store.specs.Records.{Entries, Record, Records, Changes, IsOrdered, applied, entries_where, found_by, is_from, key_cmp, lookup}
use Rattle.store.specs.Walks.{is_within}
use Rattle.store.proofs.Changes.{entries_where-applied, ordered_applied, ordered_entries_where, reversed, same_key}
use Rattle.store.proofs.Walking.{none_within, stays_past}
use Rattle.transactions.specs.Views.{applied_all, latest, or_earlier, HasLeast, IsLeast}
use Rattle.transactions.specs.Merging.{AreBelow, AreMerged, IsMerge, passed}
use Rattle.transactions.specs.Within.{AreMergedTo, change_within, cut_at, cut_below, lists_within}
use Rattle.transactions.specs.declared.merge.Below.{Below}
use Rattle.transactions.specs.declared.merge.Below.TheVariants.{Unread, Read, Ended}
use Rattle.transactions.specs.declared.merge.Merge.{Merge}
use Rattle.transactions.specs.declared.merge.MergedPlace.{MergedPlace}

-- ---- entries that pass two tests, or one

kept : {X : Type 0} (q : List ℕ → Bool) (e : List ℕ × X) (es : Entries X) → q e.0 ≡ true → entries_where q (e ∷ es) ≡ e ∷ entries_where q es
kept {X} q e es is = ap (λ (b : Bool). if b then e ∷ entries_where q es else entries_where q es) is

dropped : {X : Type 0} (q : List ℕ → Bool) (e : List ℕ × X) (es : Entries X) → q e.0 ≡ false → entries_where q (e ∷ es) ≡ entries_where q es
dropped {X} q e es is = ap (λ (b : Bool). if b then e ∷ entries_where q es else entries_where q es) is

swap : {X : Type 0} (p q : List ℕ → Bool) (es : Entries X) → entries_where p (entries_where q es) ≡ entries_where q (entries_where p es)
swap {X} p q [] = refl
swap {X} p q (e ∷ es) = go (p e.0) refl (q e.0) refl (swap p q es)
  where
    of_p : {xs ys : Entries X} → xs ≡ ys → entries_where p xs ≡ entries_where p ys
    of_p same = ap (λ (zs : Entries X). entries_where p zs) same

    of_q : {xs ys : Entries X} → xs ≡ ys → entries_where q xs ≡ entries_where q ys
    of_q same = ap (λ (zs : Entries X). entries_where q zs) same

    go : (a : Bool) → p e.0 ≡ a → (b : Bool) → q e.0 ≡ b → entries_where p (entries_where q es) ≡ entries_where q (entries_where p es) → entries_where p (entries_where q (e ∷ es)) ≡ entries_where q (entries_where p (e ∷ es))
    go true a true b later =
        of_p (kept q e es b) ∙ kept p e (entries_where q es) a ∙ ap (λ (xs : Entries X). e ∷ xs) later ∙ sym (kept q e (entries_where p es) b) ∙ sym (of_q (kept p e es a))
    go true a false b later = of_p (dropped q e es b) ∙ later ∙ sym (dropped q e (entries_where p es) b) ∙ sym (of_q (kept p e es a))
    go false a true b later = of_p (kept q e es b) ∙ dropped p e (entries_where q es) a ∙ later ∙ sym (of_q (dropped p e es a))
    go false a false b later = of_p (dropped q e es b) ∙ later ∙ sym (of_q (dropped p e es a))

first_passes : (q : List ℕ → Bool) (es : Records) (e : Record) (later : Records) → entries_where q es ≡ e ∷ later → q e.0 ≡ true
first_passes q [] e later is = cc
first_passes q (x ∷ xs) e later is = go (q x.0) refl is (first_passes q xs e later)
  where
    go : (b : Bool) → q x.0 ≡ b → (if b then x ∷ entries_where q xs else entries_where q xs) ≡ e ∷ later → (entries_where q xs ≡ e ∷ later → q e.0 ≡ true) → q e.0 ≡ true
    go true b is later = let same : x ≡ e = cc in ap (λ (r : Record). q r.0) (sym same) ∙ b
    go false b is later = later is

lookup_kept : {X : Type 0} (q : List ℕ → Bool) (key : List ℕ) (es : Entries X) → q key ≡ true → lookup key (entries_where q es) ≡ lookup key es
lookup_kept {X} q key [] passes = refl
lookup_kept {X} q key (e ∷ es) passes = go (q e.0) refl (key_cmp key e.0) refl (lookup_kept q key es passes)
  where
    go : (b : Bool) → q e.0 ≡ b → (o : Ordering) → key_cmp key e.0 ≡ o → lookup key (entries_where q es) ≡ lookup key es → lookup key (entries_where q (e ∷ es)) ≡ lookup key (e ∷ es)
    go true b o os later = ap (λ (xs : Entries X). lookup key xs) (kept q e es b) ∙ ap (λ (r : Option X). found_by (key_cmp key e.0) e.1 r) later
    go false b Less os later = ap (λ (xs : Entries X). lookup key xs) (dropped q e es b) ∙ later ∙ sym (ap (λ (r : Ordering). found_by r e.1 (lookup key es)) os)
    go false b Equal os later = absurd (false≢true (sym b ∙ ap q (sym (same_key key e.0 os)) ∙ passes))
    go false b Greater os later = ap (λ (xs : Entries X). lookup key xs) (dropped q e es b) ∙ later ∙ sym (ap (λ (r : Ordering). found_by r e.1 (lookup key es)) os)

lookup_dropped : {X : Type 0} (q : List ℕ → Bool) (key : List ℕ) (es : Entries X) → q key ≡ false → lookup key (entries_where q es) ≡ None
lookup_dropped {X} q key [] not = refl
lookup_dropped {X} q key (e ∷ es) not = go (q e.0) refl (key_cmp key e.0) refl (lookup_dropped q key es not)
  where
    there : (o : Ordering) → q e.0 ≡ true → key_cmp key e.0 ≡ o → lookup key (entries_where q (e ∷ es)) ≡ found_by o e.1 (lookup key (entries_where q es))
    there o b os = ap (λ (xs : Entries X). lookup key xs) (kept q e es b) ∙ ap (λ (r : Ordering). found_by r e.1 (lookup key (entries_where q es))) os

    go : (b : Bool) → q e.0 ≡ b → (o : Ordering) → key_cmp key e.0 ≡ o → lookup key (entries_where q es) ≡ None → lookup key (entries_where q (e ∷ es)) ≡ None
    go false b o os later = ap (λ (xs : Entries X). lookup key xs) (dropped q e es b) ∙ later
    go true b Less os later = there Less b os ∙ later
    go true b Equal os later = absurd (false≢true (sym not ∙ ap q (same_key key e.0 os) ∙ b))
    go true b Greater os later = there Greater b os ∙ later

-- ---- what lists say

latest_kept : (stop key : List ℕ) (lists : List Changes) → is_within stop key ≡ true → latest key (lists_within stop lists) ≡ latest key lists
latest_kept stop key [] within = refl
latest_kept stop key (cs ∷ lists) within =
    ap (λ o. or_earlier o (lookup key (entries_where (is_within stop) cs))) (latest_kept stop key lists within)
    ∙ ap (λ o. or_earlier (latest key lists) o) (lookup_kept (is_within stop) key cs within)

latest_dropped : (stop key : List ℕ) (lists : List Changes) → is_within stop key ≡ false → latest key (lists_within stop lists) ≡ None
latest_dropped stop key [] past = refl
latest_dropped stop key (cs ∷ lists) past =
    ap (λ o. or_earlier o (lookup key (entries_where (is_within stop) cs))) (latest_dropped stop key lists past)
    ∙ lookup_dropped (is_within stop) key cs past

pub applied_within : (stop : List ℕ) (lists : List Changes) (es : Records) → IsOrdered es → applied_all (lists_within stop lists) (entries_where (is_within stop) es) ≡ entries_where (is_within stop) (applied_all lists es)
applied_within stop [] es rise = refl
applied_within stop (cs ∷ lists) es rise =
    ap (λ (xs : Records). applied_all (lists_within stop lists) xs) (sym (entries_where-applied (is_within stop) cs es rise)) ∙ applied_within stop lists (applied cs es) (ordered_applied cs es rise)

-- a key within a stop comes before one that is not
before_past : (stop key past : List ℕ) → is_within stop key ≡ true → is_within stop past ≡ false → key_cmp key past ≡ Less
before_past stop key past within not = go (key_cmp key past) refl
  where
    go : (o : Ordering) → key_cmp key past ≡ o → key_cmp key past ≡ Less
    go Less o = o
    go Equal o = absurd (false≢true (sym not ∙ ap (is_within stop) (sym (same_key key past o)) ∙ within))
    go Greater o = absurd (false≢true (sym (stays_past stop past key not (reversed key past o)) ∙ within))

-- ---- the least change

none_left : (stop from : List ℕ) (lists : List Changes) → ((key : List ℕ) → is_from from key ≡ true → is_within stop key ≡ true → latest key lists ≡ None) → HasLeast from None (lists_within stop lists)
none_left stop from lists none = λ key on. go key on (is_within stop key) refl
  where
    go : (key : List ℕ) → is_from from key ≡ true → (b : Bool) → is_within stop key ≡ b → latest key (lists_within stop lists) ≡ None
    go key on true b = latest_kept stop key lists b ∙ none key on b
    go key on false b = latest_dropped stop key lists b

pub least_cut : (stop from : List ℕ) (least : Option (List ℕ × Option (List ℕ))) (lists : List Changes) → HasLeast from least lists → HasLeast from (change_within stop least) (lists_within stop lists)
least_cut stop from None lists none = none_left stop from lists (λ key on within. none key on)
least_cut stop from (Some change) lists least = go (is_within stop change.0) refl
  where
    before : (key : List ℕ) → is_from from key ≡ true → key_cmp key change.0 ≡ Less → (b : Bool) → is_within stop key ≡ b → latest key (lists_within stop lists) ≡ None
    before key on less true b = latest_kept stop key lists b ∙ least.before key on less
    before key on less false b = latest_dropped stop key lists b

    kept : is_within stop change.0 ≡ true → IsLeast from change (lists_within stop lists)
    kept within = record {
      from_on = least.from_on;
      latest_is = latest_kept stop change.0 lists within ∙ least.latest_is;
      before = λ key on less. before key on less (is_within stop key) refl;
    }

    go : (b : Bool) → is_within stop change.0 ≡ b → HasLeast from (if is_within stop change.0 then Some change else None) (lists_within stop lists)
    go true b = subst (λ (w : Bool). HasLeast from (if w then Some change else None) (lists_within stop lists)) (sym b) (kept b)
    go false b = subst (λ (w : Bool). HasLeast from (if w then Some change else None) (lists_within stop lists)) (sym b) (none_left stop from lists (λ key on within. least.before key on (before_past stop key change.0 within b)))

least_own : (stop from : List ℕ) (least : Option (List ℕ × Option (List ℕ))) (lists : List Changes) → HasLeast from least (lists_within stop lists) → change_within stop least ≡ least
least_own stop from None lists none = refl
least_own stop from (Some change) lists least = go (is_within stop change.0) refl
  where
    go : (b : Bool) → is_within stop change.0 ≡ b → (if is_within stop change.0 then Some change else None) ≡ Some change
    go true b = ap (λ (w : Bool). if w then Some change else None) b
    go false b = let bad : None ≡ Some change.1 = sym (latest_dropped stop change.0 lists b) ∙ least.latest_is in cc

-- ---- the record of the map that was read

below_cut : (stop from : List ℕ) (rest : Records) (read : Record) (es : Records) → IsOrdered es → (a : Below) → AreBelow rest a read (entries_where (is_from from) es)
    → AreBelow (entries_where (is_within stop) rest) (cut_below a (is_within stop read.0)) read (entries_where (is_from from) (entries_where (is_within stop) es))
below_cut stop from rest read es rise a is = go a is
  where
    cut : (xs : Records) → entries_where (is_from from) es ≡ xs → entries_where (is_from from) (entries_where (is_within stop) es) ≡ entries_where (is_within stop) xs
    cut xs same = swap (is_from from) (is_within stop) es ∙ ap (λ (ys : Records). entries_where (is_within stop) ys) same

    one : entries_where (is_from from) es ≡ read ∷ rest → (b : Bool) → is_within stop read.0 ≡ b
        → AreBelow (entries_where (is_within stop) rest) (cut_below Read b) read (entries_where (is_from from) (entries_where (is_within stop) es))
    one is true b = cut (read ∷ rest) is ∙ ap (λ (w : Bool). if w then read ∷ entries_where (is_within stop) rest else entries_where (is_within stop) rest) b
    one is false b =
        let ordered : IsOrdered (read ∷ rest) = subst (λ (xs : Records). IsOrdered xs) is (ordered_entries_where (is_from from) es rise) in
        cut (read ∷ rest) is ∙ ap (λ (w : Bool). if w then read ∷ entries_where (is_within stop) rest else entries_where (is_within stop) rest) b ∙ none_within stop read.0 rest b ordered.0

    go : (a : Below) → AreBelow rest a read (entries_where (is_from from) es) → AreBelow (entries_where (is_within stop) rest) (cut_below a (is_within stop read.0)) read (entries_where (is_from from) (entries_where (is_within stop) es))
    go Unread is = cut rest is
    go Read is = one is (is_within stop read.0) refl
    go Ended is = cut [] is

below_own : (stop from : List ℕ) (rest : Records) (read : Record) (es : Records) (a : Below) → AreBelow rest a read (entries_where (is_from from) (entries_where (is_within stop) es)) → cut_below a (is_within stop read.0) ≡ a
below_own stop from rest read es Unread is = refl
below_own stop from rest read es Ended is = refl
below_own stop from rest read es Read is =
    let within : is_within stop read.0 ≡ true = first_passes (is_within stop) (entries_where (is_from from) es) read rest (swap (is_within stop) (is_from from) es ∙ is) in
    ap (λ (b : Bool). cut_below Read b) within

rest_rises : (rest : Records) (read : Record) (es : Records) → IsOrdered es → (a : Below) → a ≢ Ended → AreBelow rest a read es → IsOrdered rest
rest_rises rest read es rise Unread not is = subst (λ (xs : Records). IsOrdered xs) is rise
rest_rises rest read es rise Read not is = let all : IsOrdered (read ∷ rest) = subst (λ (xs : Records). IsOrdered xs) is rise in all.1
rest_rises rest read es rise Ended not is = absurd (not refl)

-- ---- a walk up to a stop

merge_cut : (stop : List ℕ) (rest : Records) (lists : List Changes) (es : Records) (merge : Merge) (records : Records) → IsOrdered es → IsMerge rest lists es merge records
    → IsMerge (entries_where (is_within stop) rest) (lists_within stop lists) (entries_where (is_within stop) es) (cut_at stop merge) (entries_where (is_within stop) records)
merge_cut stop rest lists es merge records rise m = record {
  from = m.from;
  ahead = below_cut stop m.from rest merge.read es rise merge.ahead m.ahead;
  least = least_cut stop m.from merge.least lists m.least;
  records_are = ap (λ (xs : Records). entries_where (is_from m.from) xs) (applied_within stop lists es rise) ∙ swap (is_from m.from) (is_within stop) (applied_all lists es) ∙ ap (λ (xs : Records). entries_where (is_within stop) xs) m.records_are;
}

-- what is ahead up to a stop, of what is ahead
pub merged_cut : {P : Type 0} (below later : P → Records → Type 0) (stop : List ℕ) (lists : List Changes) (es : Records) (place : MergedPlace P) (records : Records) → IsOrdered es
    → ((at : P) (rest : Records) → IsOrdered rest → below at rest → later at (entries_where (is_within stop) rest)) → AreMerged below lists es place records → AreMergedTo later stop lists es place (entries_where (is_within stop) records)
merged_cut {P} below later stop lists es place records rise law is = record {
  rest = entries_where (is_within stop) is.rest;
  at_place = λ not.
      let some : place.merge.ahead ≢ Ended = λ ended. not (ap (λ (a : Below). cut_below a (is_within stop place.merge.read.0)) ended) in
      law place.below is.rest (rest_rises is.rest place.merge.read (entries_where (is_from is.merge.from) es) (ordered_entries_where (is_from is.merge.from) es rise) place.merge.ahead some is.merge.ahead) (is.at_place some);
  merge = merge_cut stop is.rest lists es place.merge records rise is.merge;
}

-- a walk that keeps nothing behind a stop is cut there
merge_own : (stop : List ℕ) (rest : Records) (lists : List Changes) (es : Records) (merge : Merge) (records : Records) → IsMerge rest (lists_within stop lists) (entries_where (is_within stop) es) merge records → cut_at stop merge ≡ merge
merge_own stop rest lists es merge records m =
    ap (λ (a : Below). record merge { ahead = a; least = change_within stop merge.least }) (below_own stop m.from rest merge.read es merge.ahead m.ahead)
    ∙ ap (λ (o : Option (List ℕ × Option (List ℕ))). record merge { least = o }) (least_own stop m.from merge.least lists m.least)

pub merged_own : {P : Type 0} (below : P → Records → Type 0) (stop : List ℕ) (lists : List Changes) (es : Records) (place : MergedPlace P) (records : Records)
    → AreMerged below (lists_within stop lists) (entries_where (is_within stop) es) place records → AreMergedTo below stop lists es place records
merged_own {P} below stop lists es place records is =
    subst (λ (m : Merge). AreMerged below (lists_within stop lists) (entries_where (is_within stop) es) (record place { merge = m }) records) (sym (merge_own stop is.rest lists es place.merge records is.merge)) is

-- a change is passed
passed_keeps : (a : Below) (less b : Bool) → cut_below a b ≡ a → cut_below (passed a less) b ≡ passed a less
passed_keeps Unread less b same = refl
passed_keeps Ended less b same = refl
passed_keeps Read true b same = same
passed_keeps Read false b same = refl

pub passed_within : (stop : List ℕ) (rest : Records) (lists : List Changes) (es : Records) (merge : Merge) (records : Records) (less : Bool) → IsMerge rest (lists_within stop lists) (entries_where (is_within stop) es) merge records
    → cut_below (passed merge.ahead less) (is_within stop merge.read.0) ≡ passed merge.ahead less
passed_within stop rest lists es merge records less m = passed_keeps merge.ahead less (is_within stop merge.read.0) (below_own stop m.from rest merge.read es merge.ahead m.ahead)

-- what is left of the least change up to a stop
pub least_within : (stop : List ℕ) (rest : Records) (lists : List Changes) (es : Records) (merge : Merge) (records : Records) → IsMerge rest (lists_within stop lists) (entries_where (is_within stop) es) merge records → change_within stop merge.least ≡ merge.least
least_within stop rest lists es merge records m = least_own stop m.from merge.least lists m.least

pub cut_passed : (stop : List ℕ) (old mid : Merge) (less : Bool) → mid.ahead ≡ passed old.ahead less → mid.read ≡ old.read → cut_below (passed old.ahead less) (is_within stop old.read.0) ≡ passed old.ahead less
    → cut_below mid.ahead (is_within stop mid.read.0) ≡ passed old.ahead less
cut_passed stop old mid less ahead read same =
    ap (λ (a : Below). cut_below a (is_within stop mid.read.0)) ahead ∙ ap (λ (e : Record). cut_below (passed old.ahead less) (is_within stop e.0)) read ∙ same
