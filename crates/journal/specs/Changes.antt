-- The changes of a batch by their bytes. Lengths take two bytes and are big-endian.
use Rattle.std.specs.Prelude.{◌≡◌, ◌<◌, ◌%◌, ℕ, List, [], ◌∷◌, ◌++◌, Option, Some, None, length, get_or, replicate}
use Rattle.std.specs.Borrow.{Bor}
use Rattle.byteorder.specs.Endian.{big_bytes}
use Rattle.store.specs.Records.{Changes, IsChangeSize}
use Rattle.store.specs.Batch.{IsBatch}

-- The bytes of a change, and then others. Where it puts a value, a byte 1, the lengths of key and value, key and value; where it
-- removes the key, a byte 2, its length and the key.
abbrev pub change_then : List ℕ → Option (List ℕ) → List ℕ → List ℕ
change_then key (Some value) rest = 1 ∷ (big_bytes 2 (length key) ++ (big_bytes 2 (length value) ++ (key ++ (value ++ rest))))
change_then key None rest = 2 ∷ (big_bytes 2 (length key) ++ (key ++ rest))

-- the bytes of all changes, and then others
abbrev pub changes_then : Changes → List ℕ → List ℕ
changes_then [] rest = rest
changes_then (c ∷ cs) rest = change_then c.0 c.1 (changes_then cs rest)

-- Bytes spell a batch: they are its changes and then zeros, fewer than a part has, and come in whole parts of 488.
pub record Spells (bytes : List ℕ) (cs : Changes) : Type 0 where
  pub batch : IsBatch cs
  pub zeros : ℕ
  pub few : zeros < 488
  pub is : bytes ≡ changes_then cs (replicate zeros 0)
  pub whole : length bytes % 488 ≡ 0

-- what is left behind the changes of a batch: zeros, fewer than a part has, where all bytes are whole parts
pub record EndsBatch (bytes rest : List ℕ) : Type 0 where
  pub whole : length bytes % 488 ≡ 0
  pub few : length rest < 488
  pub zeros : (k : ℕ) → k < length rest → get_or rest k 0 ≡ 0

-- bytes begin with those of a change that a store takes, and then come others
pub record IsFront (bytes key : List ℕ) (value : Option (List ℕ)) (rest : List ℕ) : Type 0 where
  pub size : IsChangeSize (key, value)
  pub is : bytes ≡ change_then key value rest

-- the bytes that are lent, if any are
abbrev pub lent : Option (Bor (List ℕ)) → Option (List ℕ)
lent None = None
lent (Some bytes) = Some bytes.now
