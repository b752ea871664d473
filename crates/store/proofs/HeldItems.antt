-- What changes of records make of the items that they hold.
use Rattle.std.proofs.Common.{◌≡◌, ℕ, true, List, [], ◌∷◌, ◌++◌, map, Some, None, refl, ap, sym, ◌∙◌, arith, nat_eq}
use Rattle.std.specs.declared.cmp.Ordering.{Ordering}
use Rattle.std.specs.declared.cmp.Ordering.TheVariants.{Less, Equal, Greater}
use Rattle.std.specs.Cmp.{nat_cmp_is}
use Rattle.std.proofs.lemmas.Bool.Decides.{nat_tests}
use Rattle.store.specs.Records.{Records, Changes, IsOrdered, applied, changed, changed_by, entries_where, has_prefix, key_cmp}
use Rattle.store.proofs.Changes.{entries_where-changed, entries_where-applied}
use Rattle.store.specs.Items.{Holds, put_item, put_by, drop_item, drop_by, KeysAgree}

put_spelled : {X : Type 0} (cmp : X → X → Ordering) (spell : X → List ℕ × List ℕ) (x : X) (xs : List X) → KeysAgree cmp spell x xs
    → changed (spell x).0 (Some (spell x).1) (map spell xs) ≡ map spell (put_item cmp x xs)
put_spelled cmp spell x [] a = refl
put_spelled {X} cmp spell x (y ∷ ys) a = rw a.0 (go (cmp x y) (put_spelled cmp spell x ys a.1))
  where
    go : (o : Ordering) → changed (spell x).0 (Some (spell x).1) (map spell ys) ≡ map spell (put_item cmp x ys)
        → changed_by o (spell x).0 (Some (spell x).1) (spell y) (map spell ys) (changed (spell x).0 (Some (spell x).1) (map spell ys)) ≡ map spell (put_by o x y ys (put_item cmp x ys))
    go Less later = refl
    go Equal later = refl
    go Greater later = ap (λ (zs : Records). spell y ∷ zs) later

drop_spelled : {X : Type 0} (cmp : X → X → Ordering) (spell : X → List ℕ × List ℕ) (x : X) (xs : List X) → KeysAgree cmp spell x xs
    → changed (spell x).0 None (map spell xs) ≡ map spell (drop_item cmp x xs)
drop_spelled cmp spell x [] a = refl
drop_spelled {X} cmp spell x (y ∷ ys) a = rw a.0 (go (cmp x y) (drop_spelled cmp spell x ys a.1))
  where
    go : (o : Ordering) → changed (spell x).0 None (map spell ys) ≡ map spell (drop_item cmp x ys)
        → changed_by o (spell x).0 None (spell y) (map spell ys) (changed (spell x).0 None (map spell ys)) ≡ map spell (drop_by o y ys (drop_item cmp x ys))
    go Less later = refl
    go Equal later = refl
    go Greater later = ap (λ (zs : Records). spell y ∷ zs) later

-- an item is put
pub item_put : {X : Type 0} (cmp : X → X → Ordering) (spell : X → List ℕ × List ℕ) (prefix : List ℕ) (records : Records) (x : X) (xs : List X) → IsOrdered records
    → has_prefix prefix (spell x).0 ≡ true → KeysAgree cmp spell x xs → Holds records prefix spell xs
    → Holds (changed (spell x).0 (Some (spell x).1) records) prefix spell (put_item cmp x xs)
item_put cmp spell prefix records x xs o p a h =
    entries_where-changed (has_prefix prefix) (spell x).0 (Some (spell x).1) records o ∙ rw (p, h) (put_spelled cmp spell x xs a)

-- an item is dropped
pub item_dropped : {X : Type 0} (cmp : X → X → Ordering) (spell : X → List ℕ × List ℕ) (prefix : List ℕ) (records : Records) (x : X) (xs : List X) → IsOrdered records
    → has_prefix prefix (spell x).0 ≡ true → KeysAgree cmp spell x xs → Holds records prefix spell xs
    → Holds (changed (spell x).0 None records) prefix spell (drop_item cmp x xs)
item_dropped cmp spell prefix records x xs o p a h =
    entries_where-changed (has_prefix prefix) (spell x).0 None records o ∙ rw (p, h) (drop_spelled cmp spell x xs a)

-- changes of other kinds leave the items as they are
pub items_elsewhere : {X : Type 0} (prefix : List ℕ) (spell : X → List ℕ × List ℕ) (changes : Changes) (records : Records) (xs : List X) → IsOrdered records
    → entries_where (has_prefix prefix) changes ≡ [] → Holds records prefix spell xs → Holds (applied changes records) prefix spell xs
items_elsewhere prefix spell changes records xs o n h = entries_where-applied (has_prefix prefix) changes records o ∙ rw n h

-- keys with one front are ordered by what follows
pub same_front : (p a b : List ℕ) → key_cmp (p ++ a) (p ++ b) ≡ key_cmp a b
same_front [] a b = refl
same_front (x ∷ p) a b = rw (sym (nat_cmp_is x x Equal refl)) (same_front p a b)

-- a key begins with its own front
pub own_prefix : (p k : List ℕ) → has_prefix p (p ++ k) ≡ true
own_prefix [] k = refl
own_prefix (x ∷ p) k = let t : nat_eq x x ≡ true = grind (arith, nat_tests) in rw t (own_prefix p k)
