-- Changes in pieces: where a key belongs among them.
use Rattle.std.specs.Prelude.{◌≡◌, ℕ, zero, suc, ◌<◌, ◌≤◌, Bool, true, false, List, [], ◌∷◌, ◌++◌, Option, length, get_or, drop}
use Rattle.std.proofs.Math.Bridge.{le_prop}
use Rattle.std.specs.List.{AllByRecursion, AllByRecursion-prop}
use Rattle.std.specs.declared.cmp.Ordering.TheVariants.{Less}
use Rattle.std.specs.Ordering.{is_lt}
use Rattle.store.specs.Records.{Changes, Records, IsBefore, entries_where, key_cmp, with_front}
use Rattle.store.specs.Place.{IsPlace}
use Rattle.store.specs.Batch.{all_changes}
use Rattle.store.specs.Walks.{is_within}

-- no piece is empty
abbrev pub AreFilled : List Changes → Type 0
AreFilled pieces = AllByRecursion (λ piece. 1 ≤ length piece) pieces

-- that none is empty is a fact: it has one proof at most
pub AreFilled-prop : (pieces : List Changes) → IsProp (AreFilled pieces)
AreFilled-prop pieces = AllByRecursion-prop _ (λ _. le_prop) pieces

-- the last of x and those after it
abbrev pub last_of : {X : Type 0} → X → List X → X
last_of x [] = x
last_of x (y ∷ ys) = last_of y ys

-- the last key of a piece comes before this one
abbrev pub ends_before : List ℕ → Changes → Bool
ends_before key [] = false
ends_before key (e ∷ es) = is_lt (key_cmp (last_of e es).0 key)

-- the last key of a piece is within a stop
abbrev pub ends_within : List ℕ → Changes → Bool
ends_within stop [] = false
ends_within stop (e ∷ es) = is_within stop (last_of e es).0

-- the pieces before this index end before the key, and those from it on do not
abbrev pub IsIndex : List ℕ → ℕ → List Changes → Type 0
IsIndex key zero pieces = AllByRecursion (λ piece. ends_before key piece ≡ false) pieces
IsIndex key (suc at) [] = ⊥
IsIndex key (suc at) (piece ∷ pieces) = (ends_before key piece ≡ true) × IsIndex key at pieces

-- the pieces before this index end within a stop, and those from it on do not
abbrev pub IsStopIndex : List ℕ → ℕ → List Changes → Type 0
IsStopIndex stop zero pieces = AllByRecursion (λ piece. ends_within stop piece ≡ false) pieces
IsStopIndex stop (suc at) [] = ⊥
IsStopIndex stop (suc at) (piece ∷ pieces) = (ends_within stop piece ≡ true) × IsStopIndex stop at pieces

-- the keys of these changes come before this one
abbrev pub AreLess : List ℕ → Changes → Type 0
AreLess key piece = AllByRecursion (λ e. key_cmp e.0 key ≡ Less) piece

-- the first of these changes is of this key
abbrev pub BeginWith : List ℕ → Changes → Type 0
BeginWith key [] = ⊥
BeginWith key (c ∷ cs) = c.0 ≡ key

-- the keys before the piece at this index are less than the key, and those behind it are greater
abbrev pub IsHome : List ℕ → ℕ → List Changes → Type 0
IsHome key at [] = ⊥
IsHome key zero (piece ∷ pieces) = IsBefore key (all_changes pieces)
IsHome key (suc at) (piece ∷ pieces) = AreLess key piece × IsHome key at pieces

-- a key's place, in the piece in which it belongs; any, where there is no piece
abbrev pub IsSpot : List ℕ → ℕ → ℕ → List Changes → Type 0
IsSpot key piece at [] = Unit {0}
IsSpot key piece at (p ∷ ps) = IsHome key piece (p ∷ ps) × IsPlace key at (get_or (p ∷ ps) piece [])

-- a key's place that is between two changes of a piece
abbrev pub IsInnerPlace : List ℕ → ℕ → Changes → Type 0
IsInnerPlace key at piece = IsPlace key at piece × ((0 < at) × (at < length piece))

-- the changes from the one at this index of the piece at this index on
abbrev pub from_place : ℕ → ℕ → List Changes → Changes
from_place piece at [] = []
from_place zero at (p ∷ ps) = drop at p ++ all_changes ps
from_place (suc piece) at (p ∷ ps) = from_place piece at ps

-- the records that changes put
abbrev pub puts : Changes → Records
puts [] = []
puts (c ∷ cs) = with_front c.0 c.1 (puts cs)

-- how many records a change puts: one or none
abbrev pub weight : List ℕ × Option (List ℕ) → ℕ
weight c = length (with_front c.0 c.1 [])

-- the records that changes of keys within a stop put
abbrev pub puts_within : List ℕ → Changes → Records
puts_within stop cs = entries_where (is_within stop) (puts cs)
