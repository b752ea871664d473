-- Changes that are made one after the other, from the first key to the last.
use Rattle.std.proofs.Common.{◌≡◌, ℕ, List, [], ◌∷◌, ◌++◌, Option, refl, sym, ap, subst, ◌∙◌}
use Rattle.std.specs.declared.cmp.Ordering.{Ordering}
use Rattle.std.specs.declared.cmp.Ordering.TheVariants.{Less, Equal, Greater}
use Rattle.store.specs.Records.{Entries, Changes, Records, key_cmp, IsBefore, IsOrdered, lookup, changed, applied, value_under}
use Rattle.store.proofs.Changes.{same_key, lookup-before, lookup-applied, lookup-changed_any, replaced_by, same_values, ordered_applied, ordered_changed}
use Rattle.store.proofs.InOrder.{start_ordered}

-- the second part of entries in order is in order
pub end_ordered : {X : Type 0} (xs ys : Entries X) → IsOrdered (xs ++ ys) → IsOrdered ys
end_ordered [] ys o = o
end_ordered (x ∷ xs) ys o = end_ordered xs ys o.1

-- the first of changes in order may be made first
pub first_change_first : (c : List ℕ × Option (List ℕ)) (cs : Changes) (es : Records) → IsOrdered (c ∷ cs) → IsOrdered es → applied (c ∷ cs) es ≡ applied cs (changed c.0 c.1 es)
first_change_first c cs es rising o =
    same_values (applied (c ∷ cs) es) (applied cs (changed c.0 c.1 es)) (ordered_applied (c ∷ cs) es o) (ordered_applied cs (changed c.0 c.1 es) (ordered_changed c.0 c.1 es o)) at
  where
    cases : (key : List ℕ) (r : Ordering) → r ≡ key_cmp key c.0 → replaced_by r c.1 (value_under (lookup key cs) (lookup key es)) ≡ value_under (lookup key cs) (replaced_by r c.1 (lookup key es))
    cases key Less is = refl
    cases key Equal is = rw (lookup-before key cs (subst (λ (k : List ℕ). IsBefore k cs) (sym (same_key key c.0 (sym is))) rising.0)) refl
    cases key Greater is = refl

    at : (key : List ℕ) → lookup key (applied (c ∷ cs) es) ≡ lookup key (applied cs (changed c.0 c.1 es))
    at key =
        lookup-changed_any key c.0 c.1 (applied cs es) (ordered_applied cs es o)
        ∙ ap (λ (v : Option (List ℕ)). replaced_by (key_cmp key c.0) c.1 v) (lookup-applied key cs es o)
        ∙ cases key (key_cmp key c.0) refl
        ∙ ap (λ (v : Option (List ℕ)). value_under (lookup key cs) v) (sym (lookup-changed_any key c.0 c.1 es o))
        ∙ sym (lookup-applied key cs (changed c.0 c.1 es) (ordered_changed c.0 c.1 es o))

-- a first part of changes in order may be made first
pub changes_in_turn : (cs ds : Changes) (es : Records) → IsOrdered (cs ++ ds) → IsOrdered es → applied (cs ++ ds) es ≡ applied ds (applied cs es)
changes_in_turn [] ds es rising o = refl
changes_in_turn (c ∷ cs) ds es rising o =
    first_change_first c (cs ++ ds) es rising o
    ∙ changes_in_turn cs ds (changed c.0 c.1 es) rising.1 (ordered_changed c.0 c.1 es o)
    ∙ ap (λ (xs : Records). applied ds xs) (sym (first_change_first c cs es (start_ordered (c ∷ cs) ds rising) o))
