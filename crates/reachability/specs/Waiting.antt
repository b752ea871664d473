-- Which elements wait for each key.
use Rattle.std.specs.Prelude.{◌≡◌, ◌<◌, ℕ, List, [], length, slice_get, get_or, Option, Some, None}
use Rattle.std.specs.declared.vec.Vec.{Vec}
use Rattle.std.specs.declared.alloc.Global.{Global}

abbrev pub items_of : Option (Vec ℕ Global) → List ℕ
items_of None = []
items_of (Some list) = list.items

-- the list of a key
abbrev pub bucket_at : List (Vec ℕ Global) → ℕ → List ℕ
bucket_at lists key = items_of (slice_get lists key)

-- of the first n elements, those that wait for a key stand in its list, and no others
pub record Wait (n : ℕ) (waits_for : List ℕ) (lists : List (Vec ℕ Global)) : Type 0 where
  pub there : (i : ℕ) → i < n → (k : ℕ) × (k < length (bucket_at lists (get_or waits_for i 0))) × (get_or (bucket_at lists (get_or waits_for i 0)) k 0 ≡ i)
  pub only : (key k : ℕ) → k < length (bucket_at lists key) → (get_or (bucket_at lists key) k 0 < n) × (get_or waits_for (get_or (bucket_at lists key) k 0) 0 ≡ key)
