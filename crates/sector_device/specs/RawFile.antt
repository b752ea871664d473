-- What a file of bytes is to the device that stands over it, and what its calls do.
use Rattle.std.specs.Prelude.{Bool, ◌≡◌, ◌≤◌, ◌⊎◌, ◌+◌, ◌*◌, ℕ, List, ◌++◌, length, take, drop}
use Rattle.storage_sizes.specs.Sizes.{sector_size}
use Rattle.sector_device.specs.Timeline.{Timeline, Elapses}

-- A file at one moment.
pub record FileState : Type 1 where
  -- its bytes, as they were written last
  pub bytes : List ℕ
  -- the bytes that stops leave
  pub time : Timeline (List ℕ)
  -- whether a sync of it has failed since it was opened: then a system may count bytes as synced that are not
  pub has_failed_sync : Bool

-- the bytes of a sector's length from an offset on
abbrev pub bytes_at : ℕ → List ℕ → List ℕ
bytes_at offset bytes = take sector_size (drop offset bytes)

-- the same bytes, but for these from an offset on
abbrev pub put : ℕ → List ℕ → List ℕ → List ℕ
put offset new bytes = take offset bytes ++ new ++ drop (offset + length new) bytes

-- a whole sector of the file begins at this offset
pub record IsSectorAt (offset : ℕ) (file : FileState) : Type 0 where
  pub sector : ℕ
  pub aligned : offset ≡ sector_size * sector
  pub inside : offset + sector_size ≤ length file.bytes

-- a call that writes nothing
pub record FileOnlyReads (old new : FileState) : Type 0 where
  pub bytes : new.bytes ≡ old.bytes
  pub left : (x : List ℕ) → new.time.left x → old.time.left x
  pub time : Elapses old.time new.time

-- a write of a sector's bytes at an offset, whether it succeeds or not: all of them or none
pub record FileWrites (offset : ℕ) (sector : List ℕ) (old new : FileState) : Type 0 where
  pub bytes : (new.bytes ≡ put offset sector old.bytes) ⊎ (new.bytes ≡ old.bytes)
  pub left : (x : List ℕ) → new.time.left x → (was : List ℕ) × old.time.left was × ((x ≡ was) ⊎ (x ≡ put offset sector was))
  pub time : Elapses old.time new.time

-- a stop leaves the bytes as they are
abbrev pub IsFileSynced : FileState → Type 0
IsFileSynced file = (x : List ℕ) → file.time.left x → x ≡ file.bytes
