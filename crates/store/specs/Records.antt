-- Records: entries of a key and a value, in the order of their keys. Changes of them, and what a read finds.
use Rattle.std.specs.Prelude.{◌≡◌, ◌≤◌, ℕ, Bool, true, false, nat_eq, ◌&&◌, if◌then◌else◌, List, [], ◌∷◌, Option, Some, None, length}
use mathlib.Core.HLevel.{×_prop, Unit-prop}
use Rattle.std.specs.List.{AllByRecursion, AllByRecursion-prop}
use Rattle.std.specs.declared.cmp.Ordering.{Ordering}
use Rattle.std.specs.declared.cmp.Ordering.TheVariants.{Less, Equal, Greater}
use Rattle.std.specs.Ordering.{nat_cmp, Ordering-set}
use Rattle.std.specs.Cmp.Lexicographic.{slice_cmp}
use Rattle.storage_sizes.specs.Sizes.{max_key_length, max_value_length}

-- keys, each with a value of some kind
abbrev pub Entries : Type 0 → Type 0
Entries X = List (List ℕ × X)

-- a record is a key and its value, both of bytes
abbrev pub Record : Type 0
Record = List ℕ × List ℕ

abbrev pub Records : Type 0
Records = Entries (List ℕ)

-- a change is a key and its value afterwards, or none
abbrev pub Changes : Type 0
Changes = Entries (Option (List ℕ))

-- keys are compared byte by byte
abbrev pub key_cmp : List ℕ → List ℕ → Ordering
key_cmp a b = slice_cmp nat_cmp a b

-- the key comes before those of all entries
abbrev pub IsBefore : {X : Type 0} → List ℕ → Entries X → Type 0
IsBefore key es = AllByRecursion (λ e. key_cmp key e.0 ≡ Less) es

-- keys rise, so none comes twice
abbrev pub IsOrdered : {X : Type 0} → Entries X → Type 0
IsOrdered [] = Unit {0}
IsOrdered (e ∷ es) = IsBefore e.0 es × IsOrdered es

-- that keys rise is a fact: it has one proof at most
pub IsOrdered-prop : {X : Type 0} (es : Entries X) → IsProp (IsOrdered es)
IsOrdered-prop [] = Unit-prop
IsOrdered-prop (e ∷ es) = ×_prop (AllByRecursion-prop _ (λ _. Ordering-set _ _) es) (IsOrdered-prop es)

-- what is found here, or else further on
abbrev pub found_by : {X : Type 0} → Ordering → X → Option X → Option X
found_by Equal here later = Some here
found_by Less here later = later
found_by Greater here later = later

-- the value of a key, if there is one
abbrev pub lookup : {X : Type 0} → List ℕ → Entries X → Option X
lookup key [] = None
lookup key (e ∷ es) = found_by (key_cmp key e.0) e.1 (lookup key es)

-- a key with the value that was found
abbrev pub entry_of : {X : Type 0} → List ℕ → Option X → Option (List ℕ × X)
entry_of key None = None
entry_of key (Some value) = Some (key, value)

-- the entry of a key, if there is one
abbrev pub entry_at : {X : Type 0} → List ℕ → Entries X → Option (List ℕ × X)
entry_at key es = entry_of key (lookup key es)

-- the entries after this one, if there is one
abbrev pub with_front : {X : Type 0} → List ℕ → Option X → Entries X → Entries X
with_front key None es = es
with_front key (Some value) es = (key, value) ∷ es

-- a change of entries that begin with e, by how its key compares with the key of e; later is the change of those after e
abbrev pub changed_by : {X : Type 0} → Ordering → List ℕ → Option X → List ℕ × X → Entries X → Entries X → Entries X
changed_by Less key value e es later = with_front key value (e ∷ es)
changed_by Equal key value e es later = with_front key value es
changed_by Greater key value e es later = e ∷ later

-- the entries in which a key has this value, or none
abbrev pub changed : {X : Type 0} → List ℕ → Option X → Entries X → Entries X
changed key value [] = with_front key value []
changed key value (e ∷ es) = changed_by (key_cmp key e.0) key value e es (changed key value es)

-- the records after all of these changes, the last of them first
abbrev pub applied : Changes → Records → Records
applied [] es = es
applied (c ∷ cs) es = changed c.0 c.1 (applied cs es)

-- a value after a change of its key, if there is one
abbrev pub value_under : Option (Option (List ℕ)) → Option (List ℕ) → Option (List ℕ)
value_under None old = old
value_under (Some new) old = new

-- the entries whose key passes
abbrev pub entries_where : {X : Type 0} → (List ℕ → Bool) → Entries X → Entries X
entries_where q [] = []
entries_where q (e ∷ es) = if q e.0 then e ∷ entries_where q es else entries_where q es

-- equal or greater
abbrev pub is_not_less : Ordering → Bool
is_not_less Less = false
is_not_less Equal = true
is_not_less Greater = true

-- k is this key or comes after it
abbrev pub is_from : List ℕ → List ℕ → Bool
is_from key k = is_not_less (key_cmp k key)

-- k begins with this prefix
abbrev pub has_prefix : List ℕ → List ℕ → Bool
has_prefix [] k = true
has_prefix (p ∷ ps) [] = false
has_prefix (p ∷ ps) (k ∷ ks) = nat_eq p k && has_prefix ps ks

-- the first of a list
abbrev pub first : {X : Type 0} → List X → Option X
first [] = None
first (x ∷ xs) = Some x

-- the least entry at a key or after it
abbrev pub first_from : {X : Type 0} → List ℕ → Entries X → Option (List ℕ × X)
first_from key es = first (entries_where (is_from key) es)

-- what a read answers: yes and the entry, or no where there is none
abbrev pub IsFound : {X : Type 0} → Bool → X → Option X → Type 0
IsFound true out entry = entry ≡ Some out
IsFound false out entry = entry ≡ None

-- a key that a store takes
abbrev pub IsKeySize : List ℕ → Type 0
IsKeySize key = (1 ≤ length key) × (length key ≤ max_key_length)

-- and a value
abbrev pub IsValueSize : Option (List ℕ) → Type 0
IsValueSize None = Unit {0}
IsValueSize (Some value) = length value ≤ max_value_length

-- a change that a store takes
abbrev pub IsChangeSize : List ℕ × Option (List ℕ) → Type 0
IsChangeSize c = IsKeySize c.0 × IsValueSize c.1
