-- A page's bytes in a file, and what a call on them does.
use Rattle.std.specs.Prelude.{◌≡◌, ◌≤◌, ◌⊎◌, ◌+◌, ◌*◌, ℕ, List, length, take, drop}
use Rattle.storage_sizes.specs.Sizes.{sector_size, page_size}
use Rattle.sector_device.specs.Timeline.{Elapses}
use Rattle.sector_device.specs.RawFile.{FileState}
use Rattle.sector_device.specs.FileState.{sector_of}
use Rattle.sector_device.specs.Page.{IsPart}

-- the bytes of a page's length from an offset on
abbrev pub page_bytes_at : ℕ → List ℕ → List ℕ
page_bytes_at offset bytes = take page_size (drop offset bytes)

-- the whole sectors of the file from this one on, as many as a page has, begin at this offset
pub record IsPageAt (first offset : ℕ) (file : FileState) : Type 0 where
  pub aligned : offset ≡ sector_size * first
  pub inside : offset + page_size ≤ length file.bytes

-- the same bytes, but for sectors that have their part of a page
pub record HasPartsOf (first : ℕ) (page was is : List ℕ) : Type 0 where
  pub length : length is ≡ length was
  pub each : (s : ℕ) → (sector_of s is ≡ sector_of s was) ⊎ IsPart first page s (sector_of s is)

-- a write of a page's bytes, whether it succeeds or not: each sector by itself is written whole or not at all
pub record FileWritesPage (first : ℕ) (page : List ℕ) (old new : FileState) : Type 0 where
  pub bytes : HasPartsOf first page old.bytes new.bytes
  pub left : (x : List ℕ) → new.time.left x → (was : List ℕ) × old.time.left was × HasPartsOf first page was x
  pub time : Elapses old.time new.time
