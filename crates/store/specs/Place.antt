-- Where a key belongs among entries.
use Rattle.std.specs.Prelude.{◌≡◌, ℕ, zero, suc, Bool, true, false, List, [], ◌∷◌, Option, Some, None, slice_get}
use Rattle.std.specs.List.{AllByRecursion}
use Rattle.std.specs.Str.{bytes_eq}
use Rattle.std.specs.declared.cmp.Ordering.TheVariants.{Less}
use Rattle.std.specs.Ordering.{is_lt}
use Rattle.store.specs.Records.{Entries, key_cmp, is_from}
use Rattle.store.specs.Walks.{is_within}

-- the keys before this place are less than the key, and those from it on are not
abbrev pub IsPlace : {X : Type 0} → List ℕ → ℕ → Entries X → Type 0
IsPlace key zero es = AllByRecursion (λ e. is_from key e.0 ≡ true) es
IsPlace key (suc at) [] = ⊥
IsPlace key (suc at) (e ∷ es) = (key_cmp e.0 key ≡ Less) × IsPlace key at es

-- the keys before this place are within the stop, and those from it on are not
abbrev pub IsStopPlace : {X : Type 0} → List ℕ → ℕ → Entries X → Type 0
IsStopPlace stop zero es = AllByRecursion (λ e. is_within stop e.0 ≡ false) es
IsStopPlace stop (suc at) [] = ⊥
IsStopPlace stop (suc at) (e ∷ es) = (is_within stop e.0 ≡ true) × IsStopPlace stop at es

-- an entry has this key
abbrev pub has_key : {X : Type 0} → List ℕ → Option (List ℕ × X) → Bool
has_key key None = false
has_key key (Some e) = bytes_eq e.0 key

-- the entry at this place has this key
abbrev pub has_key_at : {X : Type 0} → List ℕ → ℕ → Entries X → Bool
has_key_at key at es = has_key key (slice_get es at)

-- an entry has a key that is less than this one
abbrev pub has_lesser_key : {X : Type 0} → List ℕ → Option (List ℕ × X) → Bool
has_lesser_key key None = false
has_lesser_key key (Some e) = is_lt (key_cmp e.0 key)

-- the entry at this place has a key that is less
abbrev pub has_lesser_key_at : {X : Type 0} → List ℕ → ℕ → Entries X → Bool
has_lesser_key_at key at es = has_lesser_key key (slice_get es at)
