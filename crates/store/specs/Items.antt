-- Items that records hold: those of one kind have keys with one prefix, and each item has one spelling.
use Rattle.std.specs.Prelude.{◌≡◌, ℕ, List, [], ◌∷◌, map}
use Rattle.std.specs.List.{AllByRecursion}
use Rattle.std.specs.declared.cmp.Ordering.{Ordering}
use Rattle.std.specs.declared.cmp.Ordering.TheVariants.{Less, Equal, Greater}
use Rattle.store.specs.Records.{Records, key_cmp, entries_where, has_prefix}

-- the records with this prefix are those of these items, in this order
abbrev pub Holds : {X : Type 0} → Records → List ℕ → (X → List ℕ × List ℕ) → List X → Type 0
Holds records prefix spell items = entries_where (has_prefix prefix) records ≡ map spell items

-- an item put among y and ys, by how it compares with y; later is that item put among ys
abbrev pub put_by : {X : Type 0} → Ordering → X → X → List X → List X → List X
put_by Less x y ys later = x ∷ y ∷ ys
put_by Equal x y ys later = x ∷ ys
put_by Greater x y ys later = y ∷ later

-- an item among others in their order, in place of one that is equal to it
abbrev pub put_item : {X : Type 0} → (X → X → Ordering) → X → List X → List X
put_item cmp x [] = x ∷ []
put_item cmp x (y ∷ ys) = put_by (cmp x y) x y ys (put_item cmp x ys)

-- y and ys without an item, by how it compares with y; later is ys without it
abbrev pub drop_by : {X : Type 0} → Ordering → X → List X → List X → List X
drop_by Less y ys later = y ∷ ys
drop_by Equal y ys later = ys
drop_by Greater y ys later = y ∷ later

-- the items without the one that is equal to this
abbrev pub drop_item : {X : Type 0} → (X → X → Ordering) → X → List X → List X
drop_item cmp x [] = []
drop_item cmp x (y ∷ ys) = drop_by (cmp x y) y ys (drop_item cmp x ys)

-- an item's key is to the others' as the item is to the others
abbrev pub KeysAgree : {X : Type 0} → (X → X → Ordering) → (X → List ℕ × List ℕ) → X → List X → Type 0
KeysAgree cmp spell x xs = AllByRecursion (λ y. key_cmp (spell x).0 (spell y).0 ≡ cmp x y) xs
