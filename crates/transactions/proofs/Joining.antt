-- Changes of several lists in one.
use Rattle.std.proofs.Common.{◌≡◌, ℕ, ◌<◌, ◌+◌, List, [], ◌∷◌, ◌++◌, Option, Some, None, length, take, get_or, refl, ap, sym, ◌∙◌, subst}
use Rattle.std.proofs.lemmas.List.{take_more}
use Rattle.std.specs.declared.cmp.Ordering.{Ordering}
use Rattle.std.specs.declared.cmp.Ordering.TheVariants.{Less, Equal, Greater}
use Rattle.store.specs.Records.{Entries, Records, Changes, IsOrdered, IsBefore, key_cmp, lookup, found_by, changed, applied, value_under}
use Rattle.store.proofs.Changes.{same_key, lookup-applied, lookup-changed_any, replaced_by, same_values, ordered_applied}
use Rattle.transactions.specs.Views.{applied_all, latest, or_earlier, ordered_view}
use Rattle.transactions.proofs.Latest.{lookup-applied_all, latest-append}

-- a key before all of a list is before its last
before_last : {X : Type 0} (key : List ℕ) (xs : Entries X) (last : List ℕ × X) → IsBefore key (xs ++ last ∷ []) → key_cmp key last.0 ≡ Less
before_last key [] last before = before.0
before_last key (x ∷ xs) last before = before_last key xs last before.1

-- the last of a list that rises decides on its key alone
pub lookup-behind : {X : Type 0} (key : List ℕ) (xs : Entries X) (last : List ℕ × X) → IsOrdered (xs ++ last ∷ []) → lookup key (xs ++ last ∷ []) ≡ replaced_by (key_cmp key last.0) (Some last.1) (lookup key xs)
lookup-behind {X} key [] last rise = go (key_cmp key last.0)
  where
    go : (o : Ordering) → found_by o last.1 None ≡ replaced_by o (Some last.1) None
    go Less = refl
    go Equal = refl
    go Greater = refl
lookup-behind {X} key (x ∷ xs) last rise = go (key_cmp key x.0) refl (lookup-behind key xs last rise.1)
  where
    go : (o : Ordering) → o ≡ key_cmp key x.0 → lookup key (xs ++ last ∷ []) ≡ replaced_by (key_cmp key last.0) (Some last.1) (lookup key xs)
        → found_by o x.1 (lookup key (xs ++ last ∷ [])) ≡ replaced_by (key_cmp key last.0) (Some last.1) (found_by o x.1 (lookup key xs))
    go Less is later = later
    go Greater is later = later
    go Equal is later =
        let less : key_cmp key last.0 ≡ Less = subst (λ (k : List ℕ). key_cmp k last.0 ≡ Less) (sym (same_key key x.0 (sym is))) (before_last x.0 xs last rise.0) in
        rw less refl

-- a change more, of a list that rises
pub one_change_more : (key : List ℕ) (changes : Changes) (at : ℕ) (change : List ℕ × Option (List ℕ)) (before joined : Changes) → IsOrdered (take (at + 1) changes) → IsOrdered joined → at < length changes
    → change ≡ get_or changes at change → lookup key joined ≡ or_earlier (lookup key (take at changes)) (lookup key before)
    → lookup key (changed change.0 (Some change.1) joined) ≡ or_earlier (lookup key (take (at + 1) changes)) (lookup key before)
one_change_more key changes at change before joined rise ordered inside is was =
    let front : take (at + 1) changes ≡ take at changes ++ change ∷ [] = take_more changes at change inside ∙ ap (λ (c : List ℕ × Option (List ℕ)). take at changes ++ c ∷ []) (sym is) in
    lookup-changed_any key change.0 (Some change.1) joined ordered
    ∙ ap (replaced_by (key_cmp key change.0) (Some change.1)) was
    ∙ moved (key_cmp key change.0)
    ∙ ap (λ (word : Option (Option (List ℕ))). or_earlier word (lookup key before)) (sym (ap (lookup key) front ∙ lookup-behind key (take at changes) change (subst IsOrdered front rise)))
  where
    moved : (o : Ordering) → replaced_by o (Some change.1) (or_earlier (lookup key (take at changes)) (lookup key before))
        ≡ or_earlier (replaced_by o (Some change.1) (lookup key (take at changes))) (lookup key before)
    moved Less = refl
    moved Equal = refl
    moved Greater = refl

-- a list more
pub one_list_more : (key : List ℕ) (first : Changes) (later : List Changes) (at : ℕ) (item joined new : Changes) → at < length later → item ≡ get_or later at item
    → lookup key joined ≡ latest key (first ∷ take at later) → lookup key new ≡ or_earlier (lookup key item) (lookup key joined) → lookup key new ≡ latest key (first ∷ take (at + 1) later)
one_list_more key first later at item joined new inside is was added =
    added ∙ ap (or_earlier (lookup key item)) was
    ∙ sym (ap (λ (ls : List Changes). latest key (first ∷ ls)) (take_more later at item inside ∙ ap (λ (cs : Changes). take at later ++ cs ∷ []) (sym is)) ∙ latest-append key (first ∷ take at later) (item ∷ []))

-- changes that say what lists say
pub joined_alike : (cs : Changes) (lists : List Changes) (es : Records) → IsOrdered es → ((key : List ℕ) → lookup key cs ≡ latest key lists) → applied cs es ≡ applied_all lists es
joined_alike cs lists es rise same = same_values (applied cs es) (applied_all lists es) (ordered_applied cs es rise) (ordered_view lists es rise)
    (λ key. lookup-applied key cs es rise ∙ ap (λ (word : Option (Option (List ℕ))). value_under word (lookup key es)) (same key) ∙ sym (lookup-applied_all key lists es rise))
