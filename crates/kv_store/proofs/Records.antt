-- The map of a tree as records.
use Rattle.std.proofs.Common.{◌≡◌, ℕ, true, List, [], ◌∷◌, Some, None, refl, ap, sym, ◌∙◌}
use Rattle.std.specs.declared.cmp.Ordering.{Ordering}
use Rattle.std.specs.declared.cmp.Ordering.TheVariants.{Less, Equal, Greater}
use Rattle.std.specs.Ordering.{ordering_reverse, is_lt}
use Rattle.std.proofs.lemmas.Cmp.{nat_list_cmp_total}
use Rattle.page_nodes.specs.Map.{is_below, value_for, first_at, with_entry, without, AllAbove, IsRising}
use Rattle.page_nodes.proofs.Order.{above_all}
use Rattle.kv_store.specs.TreeLaws.{below_is, less_is}
use Rattle.store.specs.Records.{Records, key_cmp, changed, changed_by, lookup, found_by, first_from}

reversed_is : (a b : List ℕ) (r : Ordering) → key_cmp a b ≡ r → key_cmp b a ≡ ordering_reverse r
reversed_is a b r is = nat_list_cmp_total.antisymm b a ∙ ap ordering_reverse is

pub put_is : (key value : List ℕ) (es : Records) → with_entry key value es ≡ changed key (Some value) es
put_is key value [] = refl
put_is key value (e ∷ es) = go (key_cmp key e.0) refl (put_is key value es)
  where
    go : (r : Ordering) → key_cmp key e.0 ≡ r → with_entry key value es ≡ changed key (Some value) es
        → with_entry key value (e ∷ es) ≡ changed_by r key (Some value) e es (changed key (Some value) es)
    go Less is later = rw (below_is e.0 key, reversed_is key e.0 Less is, below_is key e.0, is) refl
    go Equal is later = rw (below_is e.0 key, reversed_is key e.0 Equal is, below_is key e.0, is) refl
    go Greater is later = rw (below_is e.0 key, reversed_is key e.0 Greater is) (ap (λ (xs : Records). e ∷ xs) later)

pub remove_is : (key : List ℕ) (es : Records) → without key es ≡ changed key None es
remove_is key [] = refl
remove_is key (e ∷ es) = go (key_cmp key e.0) refl (remove_is key es)
  where
    go : (r : Ordering) → key_cmp key e.0 ≡ r → without key es ≡ changed key None es
        → without key (e ∷ es) ≡ changed_by r key None e es (changed key None es)
    go Less is later = rw (below_is e.0 key, reversed_is key e.0 Less is, below_is key e.0, is) refl
    go Equal is later = rw (below_is e.0 key, reversed_is key e.0 Equal is, below_is key e.0, is) refl
    go Greater is later = rw (below_is e.0 key, reversed_is key e.0 Greater is) (ap (λ (xs : Records). e ∷ xs) later)

-- a key before all has no value
none_above : (key : List ℕ) (es : Records) → AllAbove key es → lookup key es ≡ None
none_above key [] all = refl
none_above key (e ∷ es) all = rw (less_is key e.0 all.0) (none_above key es all.1)

pub value_is : (key : List ℕ) (es : Records) → IsRising es → value_for key es ≡ lookup key es
value_is key [] rising = refl
value_is key (e ∷ es) rising = go (key_cmp key e.0) refl (value_is key es rising.1)
  where
    go : (r : Ordering) → key_cmp key e.0 ≡ r → value_for key es ≡ lookup key es → value_for key (e ∷ es) ≡ found_by r e.1 (lookup key es)
    go Less is later =
        let lt : is_below key e.0 ≡ true = below_is key e.0 ∙ ap is_lt is in
        rw (below_is e.0 key, reversed_is key e.0 Less is, below_is key e.0, is) (sym (none_above key es (above_all key e.0 es lt rising.0)))
    go Equal is later = rw (below_is e.0 key, reversed_is key e.0 Equal is, below_is key e.0, is) refl
    go Greater is later = rw (below_is e.0 key, reversed_is key e.0 Greater is) later

pub first_is : (key : List ℕ) (es : Records) → first_at key es ≡ first_from key es
first_is key [] = refl
first_is key (e ∷ es) = go (key_cmp e.0 key) refl (first_is key es)
  where
    go : (r : Ordering) → key_cmp e.0 key ≡ r → first_at key es ≡ first_from key es → first_at key (e ∷ es) ≡ first_from key (e ∷ es)
    go Less is later = rw (below_is e.0 key, is) later
    go Equal is later = rw (below_is e.0 key, is) refl
    go Greater is later = rw (below_is e.0 key, is) refl
