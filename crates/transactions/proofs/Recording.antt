-- Lists to which the changes of one more statement are added.
use Rattle.std.proofs.Common.{◌≡◌, ℕ, zero, suc, ◌+◌, Bool, true, List, [], ◌∷◌, ◌++◌, Option, Some, None, Result, Ok, Err, OnOk, length, slice_index_or, slice_set, refl, ap, sym, ◌∙◌, arith}
use Rattle.std.specs.Result.{is_ok}
use Rattle.store.specs.Records.{Records, Changes, IsOrdered, lookup, applied, value_under}
use Rattle.store.proofs.Changes.{same_values, ordered_applied, lookup-applied}
use Rattle.transactions.specs.Views.{applied_all, latest, or_earlier, ordered_view}
use Rattle.transactions.proofs.Latest.{lookup-applied_all, latest-append}

-- lists that say of each key what the changes say of it, or else what other lists say
pub recorded : (old new : List Changes) (cs : Changes) → ((key : List ℕ) → latest key new ≡ or_earlier (lookup key cs) (latest key old))
    → (es : Records) → IsOrdered es → applied_all new es ≡ applied cs (applied_all old es)
recorded old new cs says es rise =
    same_values (applied_all new es) (applied cs (applied_all old es)) (ordered_view new es rise) (ordered_applied cs (applied_all old es) (ordered_view old es rise)) (λ key.
    lookup-applied_all key new es rise
    ∙ ap (λ (word : Option (Option (List ℕ))). value_under word (lookup key es)) (says key)
    ∙ joined (lookup key cs) (latest key old) (lookup key es)
    ∙ ap (value_under (lookup key cs)) (sym (lookup-applied_all key old es rise))
    ∙ sym (lookup-applied key cs (applied_all old es) (ordered_view old es rise)))
  where
    joined : (word earlier : Option (Option (List ℕ))) (value : Option (List ℕ)) → value_under (or_earlier word earlier) value ≡ value_under word (value_under earlier value)
    joined None earlier value = refl
    joined (Some new_value) earlier value = refl

-- a list behind others that differ from the old ones at its keys alone
pub pushed : (old mid : List Changes) (cs : Changes) → ((key : List ℕ) → lookup key cs ≡ None → latest key mid ≡ latest key old)
    → (key : List ℕ) → latest key (mid ++ cs ∷ []) ≡ or_earlier (lookup key cs) (latest key old)
pushed old mid cs elsewhere key = latest-append key mid (cs ∷ []) ∙ go (lookup key cs) refl
  where
    go : (word : Option (Option (List ℕ))) → word ≡ lookup key cs → or_earlier word (latest key mid) ≡ or_earlier word (latest key old)
    go None is = elsewhere key (sym is)
    go (Some value) is = refl

-- the last list is another one, which says of a key what is said here, or else what the old one says
pub last_replaced : (key : List ℕ) (lists : List Changes) (at : ℕ) (last new : Changes) (word : Option (Option (List ℕ))) → at + 1 ≡ length lists → last ≡ slice_index_or lists at last
    → lookup key new ≡ or_earlier word (lookup key last) → latest key (slice_set lists at new) ≡ or_earlier word (latest key lists)
last_replaced key [] at last new word end is says = absurd (omega (arith, end))
last_replaced key (cs ∷ []) zero last new word end is says = says ∙ ap (λ (z : Changes). or_earlier word (lookup key z)) is
last_replaced key (cs ∷ []) (suc at) last new word end is says = absurd (omega (arith, end))
last_replaced key (cs ∷ d ∷ lists) zero last new word end is says = absurd (omega (arith, end))
last_replaced key (cs ∷ d ∷ lists) (suc at) last new word end is says =
    ap (λ (z : Option (Option (List ℕ))). or_earlier z (lookup key cs)) (last_replaced key (d ∷ lists) at last new word (omega (arith, end)) is says) ∙ joined word
  where
    joined : (first : Option (Option (List ℕ))) → or_earlier (or_earlier first (latest key (d ∷ lists))) (lookup key cs) ≡ or_earlier first (or_earlier (latest key (d ∷ lists)) (lookup key cs))
    joined None = refl
    joined (Some value) = refl

-- what is said of an `Ok` holds where there is one
pub when_ok : {T E P : Type 0} (r : Result T E) (b : Bool) → b ≡ is_ok r → b ≡ true → OnOk r P → P
when_ok (Ok x) b is is_so p = p
when_ok (Err e) b is is_so p = cc
