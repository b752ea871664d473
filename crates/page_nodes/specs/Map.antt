-- An ordered map of byte strings, as the list of its entries in the order of their keys.
use Rattle.std.specs.Prelude.{◌≡◌, ℕ, Bool, true, if◌then◌else◌, Option, Some, None, List, [], ◌∷◌}
use Rattle.std.specs.Borrow.{Bor}
use Rattle.std.specs.Ordering.{is_lt, nat_cmp}
use Rattle.std.specs.Cmp.Lexicographic.{slice_cmp}

-- byte order: the first byte that differs decides, and a prefix comes before the whole
unfoldable pub is_below : List ℕ → List ℕ → Bool
is_below a b = is_lt (slice_cmp nat_cmp a b)

-- a key and its value
abbrev pub Entry : Type 0
Entry = List ℕ × List ℕ

-- the value at a key
abbrev pub value_for : List ℕ → List Entry → Option (List ℕ)
value_for key [] = None
value_for key (e ∷ es) = if is_below e.0 key then value_for key es else (if is_below key e.0 then None else Some e.1)

-- the least entry at or after a key
abbrev pub first_at : List ℕ → List Entry → Option Entry
first_at key [] = None
first_at key (e ∷ es) = if is_below e.0 key then first_at key es else Some e

-- the map with a value at a key
abbrev pub with_entry : List ℕ → List ℕ → List Entry → List Entry
with_entry key value [] = (key, value) ∷ []
with_entry key value (e ∷ es) =
    if is_below e.0 key then e ∷ with_entry key value es
    else (if is_below key e.0 then (key, value) ∷ (e ∷ es) else (key, value) ∷ es)

-- the map with nothing at a key
abbrev pub without : List ℕ → List Entry → List Entry
without key [] = []
without key (e ∷ es) = if is_below e.0 key then e ∷ without key es else (if is_below key e.0 then e ∷ es else es)

-- the map with a value at a key, or with nothing there
abbrev pub edited : List ℕ → Option (List ℕ) → List Entry → List Entry
edited key (Some value) es = with_entry key value es
edited key None es = without key es

-- the bytes that an option lends
abbrev pub lent_bytes : Option (Bor (List ℕ)) → Option (List ℕ)
lent_bytes (Some bytes) = Some bytes.now
lent_bytes None = None

-- each key is after this one
abbrev pub AllAbove : List ℕ → List Entry → Type 0
AllAbove key [] = Unit {0}
AllAbove key (e ∷ es) = (is_below key e.0 ≡ true) × AllAbove key es

-- the keys rise strictly
abbrev pub IsRising : List Entry → Type 0
IsRising [] = Unit {0}
IsRising (e ∷ es) = AllAbove e.0 es × IsRising es

-- the entries below a key, and those from it on
abbrev pub low_entries : List ℕ → List Entry → List Entry
low_entries key [] = []
low_entries key (e ∷ es) = if is_below e.0 key then e ∷ low_entries key es else []

abbrev pub rest_entries : List ℕ → List Entry → List Entry
rest_entries key [] = []
rest_entries key (e ∷ es) = if is_below e.0 key then rest_entries key es else e ∷ es
